-- When an actor wakes next.
use Rattle.std.specs.Prelude.{◌≡◌, ◌≢◌, ℕ, ◌+◌, ◌-◌, ◌*◌, ◌/◌, ◌%◌, ◌<◌, ◌≤◌, ◌||◌, nat_lt, Option, Bool, true, false, refl}
use Rattle.std.proofs.Common.{zero, suc, sym, ◌∙◌, ap, subst, arith}
use Rattle.std.proofs.lemmas.Bool.Decides.{nat_tests}
use Rattle.std.proofs.lemmas.Nat.{mod-mul-add}
use Rattle.std.proofs.Math.Nat.{div-add-mod'}
use Rattle.tick_law.specs.Course.{flag, timer}
use Rattle.sim_base.specs.Edge.{edge_from, edge_past}
use Rattle.tick_law.specs.NextTime.{any_from, next_at, woken}

abbrev pub next_part : ℕ → (ℕ → Bool) → (ℕ → Bool) → (ℕ → Option ℕ) → ℕ → Option ℕ
next_part p flag changed timer d = next_at p flag changed timer d (edge_from p d)

pub mod_next : (d p : ℕ) → d % p + 1 < p → (d + 1) % p ≡ d % p + 1
mod_next d p h =
    let e : d / p * p + (d % p + 1) ≡ d + 1 = omega (arith, div-add-mod' d p) in
    subst (λ x. x % p ≡ d % p + 1) e (mod-mul-add (d / p) p (d % p + 1) h)

mod_last : (d p : ℕ) → d % p + 1 ≡ p → (d + 1) % p ≡ 0
mod_last d p h =
    let e : (d / p + 1) * p + 0 ≡ d + 1 = omega (arith, div-add-mod' d p) in
    subst (λ x. x % p ≡ 0) e (mod-mul-add (d / p + 1) p 0 (omega arith))

past_some : (p t r : ℕ) → 0 < r → edge_past p t r ≡ t + (p - r)
past_some p t zero h = absurd (omega arith)
past_some p t (suc r) h = refl

-- between two edges the next one stays
pub edge_between : (d p : ℕ) → 0 < p → d % p ≢ 0 → edge_from p (d + 1) ≡ d + (p - d % p)
edge_between d p b n = here (nat_lt (d % p + 1) p) refl
  where
    here : (x : Bool) → nat_lt (d % p + 1) p ≡ x → edge_past p (d + 1) ((d + 1) % p) ≡ d + (p - d % p)
    here true e =
        let l : d % p + 1 < p = grind (arith, nat_tests) in
        ap (edge_past p (d + 1)) (mod_next d p l) ∙ past_some p (d + 1) (d % p + 1) (omega arith) ∙ (let z : d + 1 + (p - (d % p + 1)) ≡ d + (p - d % p) = omega arith in z)
    here false e =
        let g : p ≤ d % p + 1 = grind (arith, nat_tests) in
        let m : d % p + 1 ≡ p = omega arith in
        ap (edge_past p (d + 1)) (mod_last d p m) ∙ (let z : d + 1 ≡ d + (p - d % p) = omega arith in z)

pub edge_here : (d p : ℕ) → d % p ≢ 0 → edge_from p d ≡ d + (p - d % p)
edge_here d p n = past_some p d (d % p) (omega arith)

-- after an edge the next one is a period on
pub edge_after : (d p : ℕ) → 0 < p → d % p ≡ 0 → edge_from p (d + 1) ≡ d + p
edge_after d p b z = here (nat_lt 1 p) refl
  where
    here : (x : Bool) → nat_lt 1 p ≡ x → edge_past p (d + 1) ((d + 1) % p) ≡ d + p
    here true e =
        let l : 1 < p = grind (arith, nat_tests) in
        ap (edge_past p (d + 1)) (mod_next d p (omega arith)) ∙ past_some p (d + 1) (d % p + 1) (omega arith) ∙ (let z : d + 1 + (p - (d % p + 1)) ≡ d + p = omega arith in z)
    here false e =
        let g : p ≤ 1 = grind (arith, nat_tests) in
        ap (edge_past p (d + 1)) (mod_last d p (omega arith)) ∙ (let w : d + 1 ≡ d + p = omega arith in w)

pub next_some : (p : ℕ) (flag changed : ℕ → Bool) (timer : ℕ → Option ℕ) (d e q n : ℕ) → 0 < e → e - p ≡ q → d - q ≡ n → next_at p flag changed timer d e ≡ woken (flag q || any_from changed q n) e (timer q)
next_some p flag changed timer d zero q n h a b = absurd (omega arith)
next_some p flag changed timer d (suc e) q n h a b = ap (λ x. woken (flag x || any_from changed x (d - x)) (suc e) (timer x)) a ∙ ap (λ x. woken (flag q || any_from changed q x) (suc e) (timer q)) b

or_false : (a : Bool) → (a || false) ≡ a
or_false true = refl
or_false false = refl

-- at an edge: the flag, or a change at that very time, wakes it a period on; else its timer does
pub next_after_edge : (p : ℕ) (flag changed : ℕ → Bool) (timer : ℕ → Option ℕ) (d : ℕ) → 0 < p → d % p ≡ 0 → next_part p flag changed timer (d + 1) ≡ woken (flag d || changed d) (d + p) (timer d)
next_after_edge p flag changed timer d b z =
    ap (next_at p flag changed timer (d + 1)) (edge_after d p b z)
    ∙ next_some p flag changed timer (d + 1) (d + p) d 1 (omega arith) (omega arith) (omega arith)
    ∙ ap (λ x. woken (flag d || x) (d + p) (timer d)) (or_false (changed (d + 0)) ∙ ap changed (let w : d + 0 ≡ d = omega arith in w))

pub woken_or : (f c a : Bool) (e : ℕ) (t : Option ℕ) → woken (f || (c || a)) e t ≡ woken c e (woken (f || a) e t)
woken_or true true a e t = refl
woken_or true false a e t = refl
woken_or false true a e t = refl
woken_or false false a e t = refl

-- between edges: a change wakes it at its next edge
pub next_between : (p : ℕ) (flag changed : ℕ → Bool) (timer : ℕ → Option ℕ) (d : ℕ) → 0 < p → d % p ≢ 0 → next_part p flag changed timer (d + 1) ≡ woken (changed d) (edge_from p d) (next_part p flag changed timer d)
next_between p flag changed timer d b n =
    let r = d % p in
    let q = d - r in
    let e = d + (p - r) in
    let within : d / p * p + d % p ≡ d = div-add-mod' d p in
    let back : e - p ≡ q = omega (arith, within) in
    let here : next_part p flag changed timer d ≡ woken (flag q || any_from changed q (d - q)) e (timer q) = ap (next_at p flag changed timer d) (edge_here d p n) ∙ next_some p flag changed timer d e q (d - q) (omega arith) back refl in
    ap (next_at p flag changed timer (d + 1)) (edge_between d p b n)
    ∙ next_some p flag changed timer (d + 1) e q (suc (d - q)) (omega arith) back (omega (arith, within))
    ∙ ap (λ x. woken (flag q || (changed x || any_from changed q (d - q))) e (timer q)) (let w : q + (d - q) ≡ d = omega (arith, within) in w)
    ∙ woken_or (flag q) (changed d) (any_from changed q (d - q)) e (timer q)
    ∙ ap (woken (changed d) e) (sym here)
    ∙ ap (λ x. woken (changed d) x (next_part p flag changed timer d)) (sym (edge_here d p n))
