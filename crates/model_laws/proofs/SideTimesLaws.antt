-- Halves of the next times of all actors.
use Rattle.std.proofs.Common.{◌≡◌, ◌≢◌, ℕ, ◌+◌, ◌<◌, ◌≤◌, ◌⊎◌, inl, inr, List, length, get_or, zero, suc, sym, ◌∙◌, ap, arith, refl}
use Rattle.std.specs.Prelude.{Option, Some, None, slice_set}
use Rattle.std.proofs.lemmas.Bool.{cases_eq}
use Rattle.std.proofs.lemmas.List.{same_lists, length-set, get_or-set_same, get_or-set_other, set-set}
use Rattle.sim_base.specs.declared.time.Time.{Time}
use Rattle.event_queue.specs.NextTimes.{time_of, earlier}
use Rattle.model_laws.specs.NextTable.{next_at_place}
use Rattle.model_laws.specs.SideTimes.{number_of, timed, half_of}

pub number-timed : (o : Option ℕ) → number_of (timed o) ≡ o
number-timed None = refl
number-timed (Some t) = refl

-- a time that is cleared and then set is the time that was set
pub set_twice : (times cleared new : List (Option Time)) (who t : ℕ) → who < length times → cleared ≡ slice_set times who None → new ≡ slice_set cleared who (Some (earlier (time_of cleared who) (record { 0 = t }))) → new ≡ slice_set times who (timed (Some t))
set_twice times cleared new who t b e f =
    f
    ∙ ap (λ l. slice_set l who (Some (earlier (time_of l who) (record { 0 = t })))) e
    ∙ ap (λ o. slice_set (slice_set times who None) who (Some (earlier o (record { 0 = t })))) (get_or-set_same times who None None b)
    ∙ set-set times who None (Some (record { 0 = t }))

pub length-half : (first count : ℕ) (times : List (Option Time)) → length (half_of first count times) ≡ count
length-half first zero times = refl
length-half first (suc n) times = ap suc (length-half (suc first) n times)

get-half : (first count : ℕ) (times : List (Option Time)) (i : ℕ) (d : Option ℕ) → i < count → get_or (half_of first count times) i d ≡ number_of (time_of times (first + i))
get-half first zero times i d b = absurd (omega arith)
get-half first (suc n) times zero d b = ap (λ k. number_of (time_of times k)) (let z : first ≡ first + 0 = omega arith in z)
get-half first (suc n) times (suc i) d b =
    get-half (suc first) n times i d (omega arith) ∙ ap (λ k. number_of (time_of times k)) (let z : suc first + i ≡ first + suc i = omega arith in z)

-- a next time of the half
pub half_at : (first count : ℕ) (times : List (Option Time)) (i : ℕ) → i < count → next_at_place (half_of first count times) i ≡ number_of (time_of times (first + i))
half_at first count times i b = get-half first count times i None b

pub half_same : (first count : ℕ) (a b : List (Option Time)) → ((i : ℕ) → i < count → time_of a (first + i) ≡ time_of b (first + i)) → half_of first count a ≡ half_of first count b
half_same first count a b same =
    same_lists (half_of first count a) (half_of first count b) (length-half first count a ∙ sym (length-half first count b))
    (λ k d l. let c : k < count = omega (arith, l, length-half first count a) in get-half first count a k d c ∙ ap number_of (same k c) ∙ sym (get-half first count b k d c))

-- a time that is set elsewhere
pub half_out : (first count who : ℕ) (times : List (Option Time)) (o : Option Time) → (who < first) ⊎ (first + count ≤ who) → half_of first count (slice_set times who o) ≡ half_of first count times
half_out first count who times o out = half_same first count (slice_set times who o) times (λ i b. get_or-set_other times who (first + i) o None (apart i b out))
  where
    apart : (i : ℕ) → i < count → (who < first) ⊎ (first + count ≤ who) → first + i ≢ who
    apart i b (inl l) = omega arith
    apart i b (inr l) = omega arith

-- a time that is set in the half
pub half_in : (first count i : ℕ) (times : List (Option Time)) (o : Option Time) → i < count → first + i < length times → half_of first count (slice_set times (first + i) o) ≡ slice_set (half_of first count times) i (number_of o)
half_in first count i times o b l =
    same_lists (half_of first count (slice_set times (first + i) o)) (slice_set (half_of first count times) i (number_of o))
    (length-half first count _ ∙ sym (length-set (half_of first count times) i (number_of o) ∙ length-half first count times))
    (λ k d lk. at k d (omega (arith, lk, length-half first count (slice_set times (first + i) o))))
  where
    at : (k : ℕ) (d : Option ℕ) → k < count → get_or (half_of first count (slice_set times (first + i) o)) k d ≡ get_or (slice_set (half_of first count times) i (number_of o)) k d
    at k d c = get-half first count (slice_set times (first + i) o) k d c ∙ elim (cases_eq k i) [
      | inl e ↦
          ap (λ j. number_of (time_of (slice_set times (first + i) o) (first + j))) e
          ∙ ap number_of (get_or-set_same times (first + i) o None l)
          ∙ sym (get_or-set_same (half_of first count times) i (number_of o) d (let z : i < length (half_of first count times) = omega (arith, b, length-half first count times) in z))
          ∙ ap (λ j. get_or (slice_set (half_of first count times) i (number_of o)) j d) (sym e)
      | inr ne ↦
          ap number_of (get_or-set_other times (first + i) (first + k) o None (let z : first + k ≢ first + i = omega (arith, ne) in z))
          ∙ sym (get-half first count times k d c)
          ∙ sym (get_or-set_other (half_of first count times) i k (number_of o) d ne)
    ]
