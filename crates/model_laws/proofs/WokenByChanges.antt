-- Owners that are woken by one port after another.
use Rattle.std.proofs.Common.{◌≡◌, ◌≢◌, ℕ, ◌+◌, ◌<◌, ◌≤◌, ◌⊎◌, inl, inr, List, [], ◌∷◌, ◌++◌, length, get_or, take, sym, ◌∙◌, ap, subst, arith, refl}
use Rattle.std.specs.Prelude.{Option, Some, None, Bool, true, false, ◌==◌, ◌&&◌, ◌||◌, slice_set}
use Rattle.std.proofs.lemmas.Bool.{eq-eqb}
use Rattle.std.proofs.Math.Bool.{or-true, or-false, and-false, or_assoc}
use Rattle.std.proofs.lemmas.List.{length-set, get_or-set_same, get_or-set_other, take_more}
use Rattle.tick_law.specs.Wires.{Wires, own_of, owner_of, Has, Wired}
use Rattle.model_laws.proofs.OneMoreActor.{is_same, is_other}
use Rattle.sim_base.specs.declared.time.Time.{Time}
use Rattle.event_queue.specs.NextTimes.{time_of}
use Rattle.tick_law.specs.NextTime.{woken}
use Rattle.tick_law.specs.Course.{any_of}
use Rattle.model_laws.specs.NextTable.{IsTable, next_at_place}
use Rattle.model_laws.proofs.WokenByPorts.{any_same, any_has}

pub any_false : (qs : List ℕ) → any_of (λ q. false) qs ≡ false
any_false [] = refl
any_false (q ∷ qs) = any_false qs

any_snoc : (f : ℕ → Bool) (qs : List ℕ) (x : ℕ) → any_of f (qs ++ x ∷ []) ≡ (any_of f qs || f x)
any_snoc f [] x = or-false (f x)
any_snoc f (q ∷ qs) x = ap (λ b. f q || b) (any_snoc f qs x) ∙ sym (or_assoc (f q) (any_of f qs) (f x))

-- q is one of these and passes a test
abbrev pub hit : (ℕ → Bool) → List ℕ → ℕ → Bool
hit test own q = any_of (λ x. (x == q) && test x) own

hit_more : (test : ℕ → Bool) (own : List ℕ) (k q : ℕ) → k < length own → hit test (take (k + 1) own) q ≡ (hit test (take k own) q || ((get_or own k 0 == q) && test (get_or own k 0)))
hit_more test own k q b = ap (any_of (λ x. (x == q) && test x)) (take_more own k 0 b) ∙ any_snoc (λ x. (x == q) && test x) (take k own) (get_or own k 0)

-- the table of owners when so many ports of the list were looked at
abbrev pub Woke : (ℕ → Bool) → List ℕ → Wires → (ℕ → ℕ) → List (Option ℕ) → List (Option ℕ) → ℕ → ℕ → Type 0
Woke test own w edge start now k count = IsTable now (λ j. woken (any_of (hit test (take k own)) (own_of w j)) (edge j) (next_at_place start j)) count

pub woke_none : (test : ℕ → Bool) (own : List ℕ) (w : Wires) (edge : ℕ → ℕ) (start : List (Option ℕ)) (count : ℕ) → length start ≡ count → Woke test own w edge start start 0 count
woke_none test own w edge start count e = record { long = e; at = λ j b. sym (ap (λ x. woken x (edge j) (next_at_place start j)) (any_false (own_of w j))) }

pub woke_skip : (test : ℕ → Bool) (own : List ℕ) (w : Wires) (edge : ℕ → ℕ) (start now : List (Option ℕ)) (k count : ℕ) → k < length own → test (get_or own k 0) ≡ false → Woke test own w edge start now k count → Woke test own w edge start now (k + 1) count
woke_skip test own w edge start now k count b e was = record {
  long = was.long;
  at = λ j l. was.at j l ∙ ap (λ x. woken x (edge j) (next_at_place start j)) (any_same (hit test (take k own)) (hit test (take (k + 1) own)) (own_of w j) (λ q has. sym (hit_more test own k q b ∙ ap (λ x. hit test (take k own) q || ((get_or own k 0 == q) && x)) e ∙ ap (λ x. hit test (take k own) q || x) (and-false (get_or own k 0 == q)) ∙ or-false (hit test (take k own) q))));
}

pub woke_more : (test : ℕ → Bool) (own : List ℕ) (w : Wires) (ports : ℕ) (edge : ℕ → ℕ) (start now new : List (Option ℕ)) (k count : ℕ) → Wired w ports → k < length own → get_or own k 0 < ports → owner_of w (get_or own k 0) < count → test (get_or own k 0) ≡ true → new ≡ slice_set now (owner_of w (get_or own k 0)) (Some (edge (owner_of w (get_or own k 0)))) → Woke test own w edge start now k count → Woke test own w edge start new (k + 1) count
woke_more test own w ports edge start now new k count wired b within owned e set was = record {
  long = ap length set ∙ length-set now (owner_of w x) _ ∙ was.long;
  at = λ j l. at j l (j == owner_of w x) refl;
}
  where
    x : ℕ
    x = get_or own k 0

    at : (j : ℕ) → j < count → (y : Bool) → (j == owner_of w x) ≡ y → next_at_place new j ≡ woken (any_of (hit test (take (k + 1) own)) (own_of w j)) (edge j) (next_at_place start j)
    at j l true f =
        let i = owner_of w x in
        let g : j ≡ i = is_same j i f in
        let long : i < length now = omega (arith, was.long, owned) in
        let on : hit test (take (k + 1) own) x ≡ true = hit_more test own k x b ∙ ap (λ y. hit test (take k own) x || (y && test x)) (eq-eqb x x refl) ∙ ap (λ y. hit test (take k own) x || y) e ∙ or-true (hit test (take k own) x) in
        let here : next_at_place new i ≡ woken (any_of (hit test (take (k + 1) own)) (own_of w i)) (edge i) (next_at_place start i) =
        ap (λ xs. next_at_place xs i) set ∙ get_or-set_same now i (Some (edge i)) None long ∙ sym (ap (λ y. woken y (edge i) (next_at_place start i)) (any_has (hit test (take (k + 1) own)) (own_of w i) x (wired.found x within) on)) in
        subst (λ n. next_at_place new n ≡ woken (any_of (hit test (take (k + 1) own)) (own_of w n)) (edge n) (next_at_place start n)) (sym g) here
    at j l false f =
        let ne = is_other j (owner_of w x) f in
        ap (λ xs. next_at_place xs j) set ∙ get_or-set_other now (owner_of w x) j (Some (edge (owner_of w x))) None ne ∙ was.at j l
        ∙ ap (λ y. woken y (edge j) (next_at_place start j)) (any_same (hit test (take k own)) (hit test (take (k + 1) own)) (own_of w j) (λ q has. sym (hit_more test own k q b ∙ ap (λ y. hit test (take k own) q || (y && test x)) (apart q has (x == q) refl) ∙ or-false (hit test (take k own) q))))
      where
        apart : (q : ℕ) → Has (own_of w j) q → (y : Bool) → (x == q) ≡ y → (x == q) ≡ false
        apart q has true g = absurd (is_other j (owner_of w x) f (sym (wired.listed j q has) ∙ ap (λ n. owner_of w n) (sym (is_same x q g))))
        apart q has false g = g

-- another actor keeps its time
pub elsewhere : (times : List (Option Time)) (first count i k : ℕ) (o : Option Time) → i < count → (k < first) ⊎ (first + count ≤ k) → time_of (slice_set times (first + i) o) k ≡ time_of times k
elsewhere times first count i k o b out = get_or-set_other times (first + i) k o None (apart out)
  where
    apart : (k < first) ⊎ (first + count ≤ k) → k ≢ first + i
    apart (inl l) = omega arith
    apart (inr l) = omega arith
