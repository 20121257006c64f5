-- Marks that are joined with a set of actors.
use Rattle.std.proofs.Common.{◌≡◌, ℕ, ◌+◌, ◌<◌, ◌⊎◌, List, length, Option, Some, Bool, true, false, inl, inr, refl, ap, sym, ◌∙◌, arith}
use Rattle.std.specs.Prelude.{◌||◌}
use Rattle.std.proofs.lemmas.Bool.{cases_lt, false≢true}
use Rattle.std.proofs.lemmas.List.{get_or_past}
use Rattle.sim_base.specs.declared.time.Time.{Time}
use Rattle.bit_set.specs.Bits.{is_in}
use Rattle.event_queue.specs.NextTimes.{time_of}
use Rattle.event_queue.specs.Merged.{times_in}
use Rattle.event_queue.proofs.OneTimeLemmas.{time_is, time_from}

-- each of so many marks is there where it was or the actor of its number from `from` on is in the set
abbrev pub AreJoined : List Bool → List Bool → List Bool → ℕ → Type 0
AreJoined actors was now from = (i : ℕ) → i < length was → is_in now i ≡ (is_in was i || is_in actors (from + i))

either_true : (a b : Bool) → (a || b) ≡ true → (a ≡ true) ⊎ (b ≡ true)
either_true true b h = inl refl
either_true false b h = inr h

true_or : (a b : Bool) → a ≡ true → (a || b) ≡ true
true_or true b h = refl
true_or false b h = absurd (false≢true h)

or_true : (a b : Bool) → b ≡ true → (a || b) ≡ true
or_true true b h = refl
or_true false b h = h

pub join_kept : (actors was now : List Bool) (from : ℕ) → AreJoined actors was now from → (i : ℕ) → is_in was i ≡ true → is_in now i ≡ true
join_kept actors was now from joined i h = elim (cases_lt i (length was)) [
  | inl lt ↦ joined i lt ∙ true_or _ _ h
  | inr past ↦ absurd (false≢true (sym (get_or_past was i false past) ∙ h))
]

join_found : (actors was now : List Bool) (from : ℕ) → length now ≡ length was → AreJoined actors was now from → (i : ℕ) → is_in now i ≡ true → (is_in was i ≡ true) ⊎ (is_in actors (from + i) ≡ true)
join_found actors was now from long joined i h = elim (cases_lt i (length was)) [
  | inl lt ↦ either_true _ _ (sym (joined i lt) ∙ h)
  | inr past ↦ absurd (false≢true (sym (get_or_past now i false (omega (arith, past, long))) ∙ h))
]

-- what joined marks say of the times
module _ (times : List (Option Time)) (t u : Time) (actors was now : List Bool) (from : ℕ) where
  pub found_in : length now ≡ length was → AreJoined actors was now from → times_in t actors ≡ times → t.0 ≡ u.0 → (i : ℕ) → is_in now i ≡ true → (is_in was i ≡ true) ⊎ (time_of times (from + i) ≡ Some u)
  found_in long joined view same i h = elim (join_found actors was now from long joined i h) [
    | inl e ↦ inl e
    | inr e ↦ inr (sym (ap (λ l. time_of l (from + i)) view) ∙ time_is t actors (from + i) e ∙ ap (λ n. Some (record { 0 = n })) same)
  ]

  pub marked_in : AreJoined actors was now from → times_in t actors ≡ times → (i : ℕ) → i < length was → time_of times (from + i) ≡ Some u → is_in now i ≡ true
  marked_in joined view i within e = joined i within ∙ or_true _ _ (time_from t actors (from + i) u (ap (λ l. time_of l (from + i)) view ∙ e)).0

  pub taken_only : length now ≡ length was → ((i : ℕ) → i < length was → is_in now i ≡ is_in actors (from + i)) → times_in t actors ≡ times → t.0 ≡ u.0 → (i : ℕ) → is_in now i ≡ true → time_of times (from + i) ≡ Some u
  taken_only long taken view same i h = elim (cases_lt i (length was)) [
    | inl lt ↦ sym (ap (λ l. time_of l (from + i)) view) ∙ time_is t actors (from + i) (sym (taken i lt) ∙ h) ∙ ap (λ n. Some (record { 0 = n })) same
    | inr past ↦ absurd (false≢true (sym (get_or_past now i false (omega (arith, past, long))) ∙ h))
  ]

  pub taken_marked : ((i : ℕ) → i < length was → is_in now i ≡ is_in actors (from + i)) → times_in t actors ≡ times → (i : ℕ) → i < length was → time_of times (from + i) ≡ Some u → is_in now i ≡ true
  taken_marked taken view i within e = taken i within ∙ (time_from t actors (from + i) u (ap (λ l. time_of l (from + i)) view ∙ e)).0
