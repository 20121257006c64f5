-- The least pair of lists of optional times that are read as one.
use Rattle.std.proofs.Common.{◌≡◌, ℕ, ◌<◌, ◌≤◌, ◌⊎◌, ◌↔◌, List, length, Option, Some, None, All, true, false, inl, inr, ap, sym, subst, ◌∙◌, ◌||◌, ◌&&◌, eqb, ltb, arith}
use Rattle.std.proofs.lemmas.Bool.{cases_lt, cases_Bool, cond-true, cond-false, and_parts, and_from, or_parts, ltb-true, eqb-true, lt-ltb, eq-eqb, both_ways}
use Rattle.std.proofs.lemmas.List.{get_or_past}
use Rattle.std.proofs.lemmas.Option.{none-some}
use Rattle.sim_base.specs.declared.phase.Phase.{Phase}
use Rattle.sim_base.specs.declared.phase.Phase.TheVariants.{Primary}
use Rattle.sim_base.specs.declared.time.Time.{Time}
use Rattle.event_queue.specs.declared.key.Key.{Key}
use Rattle.event_queue.specs.NextTimes.{time_of, IsFirst}
use Rattle.event_queue.specs.Merged.{merged, IsApart, NoTimes, IsLeastKey, IsLeastIn, is_less, lesser_of}
use Rattle.event_queue.proofs.MergedLemmas.{merged-one, merged-other, merged-from, merged-none, read_within}

-- the pair of one part of a list is its least, where it is no greater than that of the other
least_of : (z x y : List (Option Time)) (a b : Key) → ((i : ℕ) (t : Time) → time_of x i ≡ Some t → time_of z i ≡ Some t) → ((i : ℕ) (t : Time) → time_of z i ≡ Some t → (time_of x i ≡ Some t) ⊎ (time_of y i ≡ Some t)) → IsLeastKey x a → IsLeastKey y b → a.time.0 ≤ b.time.0 → (a.time.0 ≡ b.time.0 → a.who.0 ≤ b.who.0) → IsLeastKey z a
least_of z x y a b shown parts one other le tie = record {
  there = shown a.who.0 a.time one.there;
  least = λ i t e. elim (parts i t e) [
    | inl f ↦ one.least i t f
    | inr f ↦ omega (arith, le, other.least i t f)
  ];
  lowest = λ i e. elim (parts i a.time e) [
    | inl f ↦ one.lowest i f
    | inr f ↦
        (let same : a.time.0 ≡ b.time.0 = omega (arith, le, other.least i a.time f) in
        omega (arith, tie same, other.lowest i (f ∙ ap (λ n. Some (record { 0 = n })) same)))
  ];
}

alone : (z x : List (Option Time)) (a : Key) → ((i : ℕ) (t : Time) → time_of x i ≡ Some t → time_of z i ≡ Some t) → ((i : ℕ) (t : Time) → time_of z i ≡ Some t → time_of x i ≡ Some t) → IsLeastKey x a → IsLeastKey z a
alone z x a shown back one = record {
  there = shown a.who.0 a.time one.there;
  least = λ i t e. one.least i t (back i t e);
  lowest = λ i e. one.lowest i (back i a.time e);
}

-- a is no greater than b
abbrev NotAfter : Key → Key → Type 0
NotAfter a b = (a.time.0 ≤ b.time.0) × (a.time.0 ≡ b.time.0 → a.who.0 ≤ b.who.0)

not_less : (a b : Key) → is_less b a ≡ false → NotAfter a b
not_less a b h =
    let parts = or_parts _ _ h in (
      elim (cases_lt b.time.0 a.time.0) [
        | inl lt ↦ absurd (both_ways _ parts.0 (lt-ltb _ _ lt))
        | inr le ↦ le
      ],
      λ e. elim (cases_lt b.who.0 a.who.0) [
        | inl lt ↦ absurd (both_ways _ parts.1 (and_from _ _ (eq-eqb _ _ (sym e)) (lt-ltb _ _ lt)))
        | inr le ↦ le
      ],
    )

less : (a b : Key) → is_less b a ≡ true → NotAfter b a
less a b h = elim (cases_Bool (ltb b.time.0 a.time.0)) [
  | inl is ↦ (let lt = ltb-true _ _ is in (omega (arith, lt), λ e. absurd (omega (arith, lt, e))))
  | inr out ↦
      (let e = eqb b.time.0 a.time.0 in
      let l = ltb b.who.0 a.who.0 in
      let rest : (e && l) ≡ true = sym (ap (λ v. v || (e && l)) out) ∙ h in
      let both = and_parts e l rest in
      let same : b.time.0 ≡ a.time.0 = eqb-true b.time.0 a.time.0 both.0 in
      let lt : b.who.0 < a.who.0 = ltb-true b.who.0 a.who.0 both.1 in
      (omega (arith, same), λ e. omega (arith, lt)))
]

swapped : {A B : Type 0} → A ⊎ B → B ⊎ A
swapped (inl a) = inr a
swapped (inr b) = inl b

pub least_merged : (x y : List (Option Time)) (one other : Option Key) → IsApart x y → IsLeastIn x one → IsLeastIn y other → IsLeastIn (merged x y) (lesser_of one other)
least_merged x y None None a h k = λ i. merged-none x y a i (h i) ∙ k i
least_merged x y None (Some b) a h k = alone (merged x y) y b (merged-other x y a) (λ i t e. sym (merged-none x y a i (h i)) ∙ e) k
least_merged x y (Some a') None a h k = alone (merged x y) x a' (merged-one x y a) (λ i t e. elim (merged-from x y a i t e) [
  | inl f ↦ f
  | inr f ↦ absurd (none-some t (sym (k i) ∙ f))
]) h
least_merged x y (Some a') (Some b) a h k = elim (cases_Bool (is_less b a')) [
  | inl is ↦
      (let first = less a' b is in
      subst (IsLeastIn (merged x y)) (sym (cond-true _ _ _ is)) (least_of (merged x y) y x b a' (merged-other x y a) (λ i t e. swapped (merged-from x y a i t e)) k h first.0 first.1))
  | inr out ↦
      (let first = not_less a' b out in
      subst (IsLeastIn (merged x y)) (sym (cond-false _ _ _ out)) (least_of (merged x y) x y a' b (merged-one x y a) (merged-from x y a) h k first.0 first.1))
]

pub IsFirst-key : (times : List (Option Time)) (parts : ℕ) (key : Key) (phase : Phase) → IsLeastKey times key → ((phase ≡ Primary) ↔ (key.who.0 < parts)) → IsFirst times parts (key.time, phase)
IsFirst-key times parts key phase k is = record {
  there = (key.who.0, k.there);
  least = k.least;
  phase = (λ e. (key.who.0, is.0 e, k.there), λ found. is.1 (omega (arith, k.lowest found.0 found.2, found.1)));
}

pub all_none : (times : List (Option Time)) → NoTimes times → All (λ time. time ≡ None) times
all_none times none k d within = read_within times k d within ∙ none k

pub not_all_none : (times : List (Option Time)) (key : Key) → IsLeastKey times key → All (λ time. time ≡ None) times → ⊥
not_all_none times key k none = elim (cases_lt key.who.0 (length times)) [
  | inl within ↦ none-some _ (sym (none key.who.0 None within) ∙ k.there)
  | inr past ↦ none-some _ (sym (get_or_past times key.who.0 None past) ∙ k.there)
]
