-- One port after another wakes all whose faces changed.
use Rattle.std.proofs.Common.{◌≡◌, ◌≢◌, ℕ, ◌<◌, ◌≤◌, List, ◌∷◌, [], length, zero, suc, sym, ◌∙◌, ap, subst, arith, refl}
use Rattle.std.specs.Prelude.{Option, Some, None, Bool, true, false, ◌==◌, ◌&&◌, ◌||◌, slice_set, nat_lt}
use Rattle.std.proofs.lemmas.Bool.Decides.{nat_tests}
use Rattle.std.proofs.lemmas.List.{length-set, get_or-set_same, get_or-set_other}
use Rattle.tick_law.specs.Wires.{Wires, own_of, owner_of, Has, Wired}
use Rattle.model_laws.proofs.OneMoreActor.{is_same, is_other}
use Rattle.tick_law.specs.NextTime.{woken}
use Rattle.tick_law.specs.Course.{any_of}
use Rattle.model_laws.specs.NextTable.{IsTable, next_at_place}

-- the tests of the first n ports
abbrev pub upto : ℕ → (ℕ → Bool) → ℕ → Bool
upto n test q = nat_lt q n && test q

or_both : (a b c d : Bool) → a ≡ c → b ≡ d → (a || b) ≡ (c || d)
or_both a b c d e f = rw (e, f) refl

pub any_same : (f g : ℕ → Bool) (qs : List ℕ) → ((q : ℕ) → Has qs q → f q ≡ g q) → any_of f qs ≡ any_of g qs
any_same f g [] h = refl
any_same f g (q ∷ qs) h = or_both (f q) (any_of f qs) (g q) (any_of g qs) (h q (0, omega arith, refl)) (any_same f g qs (λ k (j, b, e). h k (suc j, omega arith, e)))

or_true : (a : Bool) → (a || true) ≡ true
or_true true = refl
or_true false = refl

pub any_has : (f : ℕ → Bool) (qs : List ℕ) (q : ℕ) → Has qs q → f q ≡ true → any_of f qs ≡ true
any_has f [] q h e = absurd (omega (arith, h.1))
any_has f (x ∷ xs) q (zero, b, g) e = let z : f x ≡ true = ap f g ∙ e in ap (λ y. y || any_of f xs) z
any_has f (x ∷ xs) q (suc j, b, g) e = ap (λ y. f x || y) (any_has f xs q (j, omega arith, g) e) ∙ or_true (f x)

none_yet : (test : ℕ → Bool) (qs : List ℕ) → any_of (upto 0 test) qs ≡ false
none_yet test [] = refl
none_yet test (q ∷ qs) = let e : nat_lt q 0 ≡ false = grind (arith, nat_tests) in or_both (nat_lt q 0 && test q) (any_of (upto 0 test) qs) false false (ap (λ b. b && test q) e) (none_yet test qs)

lt_next : (q n : ℕ) → q ≢ n → nat_lt q (suc n) ≡ nat_lt q n
lt_next q n ne = here (nat_lt q n) refl
  where
    here : (b : Bool) → nat_lt q n ≡ b → nat_lt q (suc n) ≡ nat_lt q n
    here true e = let f : nat_lt q (suc n) ≡ true = grind (arith, nat_tests, e) in f ∙ sym e
    here false e = let f : nat_lt q (suc n) ≡ false = grind (arith, nat_tests, e, ne) in f ∙ sym e

lt_self : (n : ℕ) → nat_lt n (suc n) ≡ true
lt_self n = grind (arith, nat_tests)

lt_true : (q n : ℕ) → q < n → nat_lt q n ≡ true
lt_true q n l = grind (arith, nat_tests)

-- the table when the first n ports were looked at
pub record Waked (w : Wires) (test : ℕ → Bool) (edge : ℕ → ℕ) (start now : List (Option ℕ)) (n : ℕ) : Type 0 where
  pub long : length now ≡ length start
  pub at : (j : ℕ) → j < length start → next_at_place now j ≡ woken (any_of (upto n test) (own_of w j)) (edge j) (next_at_place start j)

pub waked_none : (w : Wires) (test : ℕ → Bool) (edge : ℕ → ℕ) (start : List (Option ℕ)) → Waked w test edge start start 0
waked_none w test edge start = record { long = refl; at = λ j b. sym (ap (λ x. woken x (edge j) (next_at_place start j)) (none_yet test (own_of w j))) }

pub waked_skip : (w : Wires) (test : ℕ → Bool) (edge : ℕ → ℕ) (start now : List (Option ℕ)) (n : ℕ) → test n ≡ false → Waked w test edge start now n → Waked w test edge start now (suc n)
waked_skip w test edge start now n e was = record {
  long = was.long;
  at = λ j b. was.at j b ∙ ap (λ x. woken x (edge j) (next_at_place start j)) (any_same (upto n test) (upto (suc n) test) (own_of w j) (λ q has. same q (q == n) refl));
}
  where
    same : (q : ℕ) → (x : Bool) → (q == n) ≡ x → upto n test q ≡ upto (suc n) test q
    same q true f = let g : q ≡ n = is_same q n f in subst (λ j. upto n test j ≡ upto (suc n) test j) (sym g) (ap (λ b. nat_lt n n && b) e ∙ off (nat_lt n n) ∙ sym (ap (λ b. nat_lt n (suc n) && b) e ∙ off (nat_lt n (suc n))))
      where
        off : (b : Bool) → (b && false) ≡ false
        off true = refl
        off false = refl
    same q false f = ap (λ b. b && test q) (sym (lt_next q n (is_other q n f)))

pub waked_more : (w : Wires) (ports : ℕ) (test : ℕ → Bool) (edge : ℕ → ℕ) (start now new : List (Option ℕ)) (n : ℕ) → Wired w ports → n < ports → owner_of w n < length start → test n ≡ true → new ≡ slice_set now (owner_of w n) (Some (edge (owner_of w n))) → Waked w test edge start now n → Waked w test edge start new (suc n)
waked_more w ports test edge start now new n wired b owned e set was = record {
  long = ap length set ∙ length-set now (owner_of w n) _ ∙ was.long;
  at = λ j l. at j l (j == owner_of w n) refl;
}
  where
    at : (j : ℕ) → j < length start → (x : Bool) → (j == owner_of w n) ≡ x → next_at_place new j ≡ woken (any_of (upto (suc n) test) (own_of w j)) (edge j) (next_at_place start j)
    at j l true f =
        let g : j ≡ owner_of w n = is_same j (owner_of w n) f in
        let i = owner_of w n in
        let on : upto (suc n) test n ≡ true = ap (λ b. b && test n) (lt_self n) ∙ e in
        let long : i < length now = omega (arith, was.long, owned) in
        let here : next_at_place new i ≡ woken (any_of (upto (suc n) test) (own_of w i)) (edge i) (next_at_place start i) = ap (λ xs. next_at_place xs i) set ∙ get_or-set_same now i (Some (edge i)) None long ∙ sym (ap (λ x. woken x (edge i) (next_at_place start i)) (any_has (upto (suc n) test) (own_of w i) n (wired.found n b) on)) in
        subst (λ k. next_at_place new k ≡ woken (any_of (upto (suc n) test) (own_of w k)) (edge k) (next_at_place start k)) (sym g) here
    at j l false f =
        let ne = is_other j (owner_of w n) f in
        ap (λ xs. next_at_place xs j) set ∙ get_or-set_other now (owner_of w n) j (Some (edge (owner_of w n))) None ne ∙ was.at j l
        ∙ ap (λ x. woken x (edge j) (next_at_place start j)) (any_same (upto n test) (upto (suc n) test) (own_of w j) (λ q has. ap (λ b. b && test q) (sym (lt_next q n (λ g. ne (sym (wired.listed j q has) ∙ ap (λ k. owner_of w k) g))))))

pub waked_all : (w : Wires) (ports : ℕ) (test : ℕ → Bool) (edge : ℕ → ℕ) (start now : List (Option ℕ)) (n : ℕ) → Wired w ports → ports ≤ n → Waked w test edge start now n → IsTable now (λ j. woken (any_of test (own_of w j)) (edge j) (next_at_place start j)) (length start)
waked_all w ports test edge start now n wired b was = record {
  long = was.long;
  at = λ j l. was.at j l ∙ ap (λ x. woken x (edge j) (next_at_place start j)) (any_same (upto n test) test (own_of w j) (λ q has. ap (λ b. b && test q) (lt_true q n (let m = wired.within j q has in omega (arith, m, b)))));
}
