-- The list of optional times that a row and the places of its actors show.
use Rattle.std.proofs.Common.{◌≡◌, ℕ, ◌+◌, ◌-◌, ◌*◌, ◌^◌, ◌<◌, ◌≤◌, ◌/◌, zero, suc, List, length, get_or, set, map, replicate, Option, Some, None, Bool, true, false, cond, inl, inr, refl, ap, sym, ◌∙◌, arith}
use Rattle.std.proofs.lemmas.Bool.{cases_lt, cases_eq}
use Rattle.std.proofs.lemmas.List.{same_lists, get_or-set_same, get_or-set_other, length-set, length-replicate, get_or-replicate, get_or_past, get_or-map, length-map}
use Rattle.std.proofs.lemmas.List.Sums.{sum-map}
use Rattle.std.proofs.lemmas.List.FromFn.{length-map-range_with_len, get_or-map-range_with_len}
use Rattle.std.proofs.lemmas.Option.{none-some, same_Some}
use Rattle.sim_base.specs.declared.time.Time.{Time}
use Rattle.event_queue.specs.declared.key.Key.{Key}
use Rattle.event_queue.specs.KeyRow.{Row, pair_at}
use Rattle.event_queue.specs.Heap.{rank_at, IsHeap}
use Rattle.event_queue.specs.NextTimes.{time_of, NoneDue, IsLeastDue, is_by, count_due_by}
use Rattle.event_queue.specs.Merged.{IsLeastKey, NoTimes}
use Rattle.event_queue.specs.Due.{tree_sum, one_by, one_due, IsDue, AreActors}
use Rattle.event_queue.proofs.CountLemmas.{sum_below-le-sum, who_at, who_apart}
use Rattle.bit_set.specs.Bits.{is_in}
use Rattle.event_queue.specs.Mark.{one_left}
use Rattle.event_queue.proofs.MarkLemmas.{one_left-here}
use Rattle.event_queue.proofs.DueLemmas.{whole_tree, levels_enough, one_due-here, one_by-past, one_by-le, sum_below-at, sum_below-past}
use Rattle.event_queue.specs.Places.{time_at, times_of, IsPlaced, SetsTime, IsIndexed}
use Rattle.event_queue.proofs.PlacesLemmas.{Owns, time_at-owned, time_at-none, owned_or_none}

pub length-times_of : (pairs : List Key) (places : List ℕ) → length (times_of pairs places) ≡ length places
length-times_of pairs places = length-map-range_with_len (time_at pairs places) 0 (length places)

pub get_or-times_of : (pairs : List Key) (places : List ℕ) (i : ℕ) (d : Option Time) → i < length places → get_or (times_of pairs places) i d ≡ time_at pairs places i
get_or-times_of pairs places i d within = get_or-map-range_with_len (time_at pairs places) 0 (length places) i i d within (omega arith)

pub times_of-set : (was now : List Key) (was_at now_at : List ℕ) (who : ℕ) (time : Option Time) → who < length was_at → SetsTime was was_at now now_at who time → times_of now now_at ≡ set (times_of was was_at) who time
times_of-set was now was_at now_at who time known s =
    let before = length-times_of was was_at in
    let after = length-times_of now now_at in
    same_lists _ _ (after ∙ s.actors ∙ sym before ∙ sym (length-set (times_of was was_at) who time))
    (λ k d within.
    let in_now : k < length now_at = omega (arith, after, within) in
    let in_was : k < length was_at = omega (arith, in_now, s.actors) in
    get_or-times_of now now_at k d in_now ∙ elim (cases_eq k who) [
      | inl e ↦ ap (time_at now now_at) e ∙ s.set ∙ sym (get_or-set_same (times_of was was_at) who time d (omega (arith, before, known))) ∙ ap (λ n. get_or (set (times_of was was_at) who time) n d) (sym e)
      | inr ne ↦ s.others k ne ∙ sym (get_or-times_of was was_at k d in_was) ∙ sym (get_or-set_other (times_of was was_at) who k time d ne)
    ])

pub times_of-empty : (pairs : List Key) (places : List ℕ) (n : ℕ) → length pairs ≡ 0 → length places ≡ n → times_of pairs places ≡ replicate n None
times_of-empty pairs places n empty count =
    same_lists _ _ (length-times_of pairs places ∙ count ∙ sym (length-replicate n None))
    (λ k d within.
    let in_n : k < length places = omega (arith, length-times_of pairs places, within) in
    get_or-times_of pairs places k d in_n ∙ time_at-none pairs places k (λ p own. absurd (omega (arith, own.0, empty)))
    ∙ sym (get_or-replicate n k None d (omega (arith, count, in_n))))

-- the pair of an actor that has a time
pub owner_of : (pairs : List Key) (places : List ℕ) (i : ℕ) (t : Time) → IsPlaced pairs places → time_of (times_of pairs places) i ≡ Some t → (p : ℕ) × Owns pairs i p × ((pair_at pairs p).time ≡ t)
owner_of pairs places i t placed has = elim (cases_lt i (length places)) [
  | inr past ↦ absurd (none-some t (sym (get_or_past (times_of pairs places) i None (omega (arith, length-times_of pairs places, past))) ∙ has))
  | inl within ↦
      (let read : time_at pairs places i ≡ Some t = sym (get_or-times_of pairs places i None within) ∙ has in
      elim (owned_or_none pairs places i placed) [
        | inl found ↦ (found.0, found.1, same_Some _ _ (sym (time_at-owned pairs places i found.0 placed found.1) ∙ read))
        | inr none ↦ absurd (none-some t (sym (time_at-none pairs places i none) ∙ read))
      ])
]

-- the time of the actor of a pair
pub time_of-owned : (pairs : List Key) (places : List ℕ) (p : ℕ) → IsPlaced pairs places → p < length pairs → time_of (times_of pairs places) (pair_at pairs p).who.0 ≡ Some (pair_at pairs p).time
time_of-owned pairs places p placed within =
    get_or-times_of pairs places _ None (placed.who_within p within) ∙ time_at-owned pairs places _ p placed (within, refl)

-- the pair at the root is the least
pub root_is_least : (pairs : List Key) → IsHeap pairs → (fuel p : ℕ) → p ≤ fuel → p < length pairs → rank_at pairs 0 ≤ rank_at pairs p
root_is_least pairs heap zero p le within = let e : p ≡ 0 = omega arith in omega (arith, ap (rank_at pairs) e)
root_is_least pairs heap (suc fuel) p le within = elim (cases_eq p 0) [
  | inl e ↦ omega (arith, ap (rank_at pairs) e)
  | inr some ↦
      (let up = root_is_least pairs heap fuel ((p - 1) / 2) (omega arith) (omega arith) in
      omega (arith, up, heap.ordered ((p - 1) / 2) p (omega arith) (omega arith) within))
]

pub none_in_empty : (pairs : List Key) (places : List ℕ) → IsPlaced pairs places → length pairs ≡ 0 → NoTimes (times_of pairs places)
none_in_empty pairs places placed empty i = elim (cases_lt i (length places)) [
  | inl within ↦ get_or-times_of pairs places i None within ∙ time_at-none pairs places i (λ p own. absurd (omega (arith, own.0, empty)))
  | inr past ↦ get_or_past (times_of pairs places) i None (omega (arith, length-times_of pairs places, past))
]

-- the root is the least pair
pub IsLeastKey-root : (row : Row) (places : List ℕ) → IsIndexed row places → 0 < length row.pairs → IsLeastKey (times_of row.pairs places) (pair_at row.pairs 0)
IsLeastKey-root row places index some =
    let pairs = row.pairs in
    let root = pair_at pairs 0 in
    record {
      there = time_of-owned pairs places 0 index.placed some;
      least = λ i t has.
          let own = owner_of pairs places i t index.placed has in
          omega (arith, root_is_least pairs index.heap own.0 own.0 (omega arith) own.1.0, ap (λ (u : Time). u.0) own.2, index.placed.who_within own.0 own.1.0, index.few);
      lowest = λ i has.
          let own = owner_of pairs places i root.time index.placed has in
          omega (arith, root_is_least pairs index.heap own.0 own.0 (omega arith) own.1.0, ap (λ (u : Time). u.0) own.2, own.1.1);
    }

pub actors_of : (row : Row) (places : List ℕ) → IsIndexed row places → AreActors row.pairs
actors_of row places index = record { small = λ p within. omega (arith, index.placed.who_within p within, index.few) }

-- no pair that is due was missed
pub NoneDue-from_tree : (row : Row) (places : List ℕ) (t : Time) (from bound : ℕ) → IsIndexed row places → ((levels : ℕ) → length row.pairs < (0 + 1) * 2 ^ levels → tree_sum (one_due row.pairs t from bound) levels 0 ≡ 0) → NoneDue (times_of row.pairs places) t from bound
NoneDue-from_tree row places t from bound index none i lo hi has =
    let pairs = row.pairs in
    let m = length pairs in
    let all = whole_tree (one_due pairs t from bound) m in
    let enough = levels_enough m in
    let zero_all : tree_sum (one_due pairs t from bound) m 0 ≡ 0 = none m (omega (arith, enough)) in
    let own = owner_of pairs places i t index.placed has in
    let here = one_due-here pairs t from bound own.0 own.1.0 (ap (λ (u : Time). u.0) own.2) (omega (arith, own.1.1, lo)) (omega (arith, own.1.1, hi)) in
    absurd (omega (arith, here, zero_all, all.1, sum_below-at (one_due pairs t from bound) own.0 all.0 (omega (arith, all.2, enough, own.1.0))))

pub none_due_in_empty : (pairs : List Key) (places : List ℕ) (t : Time) (from below : ℕ) → IsPlaced pairs places → length pairs ≡ 0 → NoneDue (times_of pairs places) t from below
none_due_in_empty pairs places t from below placed empty i lo hi has =
    let own = owner_of pairs places i t placed has in
    absurd (omega (arith, own.1.0, empty))

pub IsLeastDue-from : (row : Row) (places : List ℕ) (t : Time) (from below who : ℕ) → IsIndexed row places → who < below → IsDue row.pairs t from who → NoneDue (times_of row.pairs places) t from who → IsLeastDue (times_of row.pairs places) t from below who
IsLeastDue-from row places t from below who index lt due none = record {
  not_below_from = due.not_below;
  below_end = lt;
  due =
      ap (time_of (times_of row.pairs places)) (sym due.who_is)
      ∙ time_of-owned row.pairs places due.place index.placed due.within
      ∙ ap (λ u. Some u) due.time_is;
  least = none;
}

-- no more pairs have a time not above this one than actors have
pub tree_sum-le-count : (row : Row) (places : List ℕ) (t : Time) → IsIndexed row places → tree_sum (one_by row.pairs t) (length row.pairs) 0 ≤ count_due_by (times_of row.pairs places) t
tree_sum-le-count row places t index =
    let pairs = row.pairs in
    let times = times_of pairs places in
    let m = length pairs in
    let f : Option Time → ℕ = λ o. cond (is_by t o) 1 0 in
    let all = whole_tree (one_by pairs t) m in
    let short = sum_below-past (one_by pairs t) m (one_by-past pairs t) all.0 in
    let le = sum_below-le-sum m (one_by pairs t) (who_at pairs) (map f times)
    (λ p within.
    let known = index.placed.who_within p within in
    let in_times : who_at pairs p < length times = omega (arith, length-times_of pairs places, known) in
    let read : get_or (map f times) (who_at pairs p) 0 ≡ f (Some (pair_at pairs p).time) = get_or-map f times (who_at pairs p) None 0 in_times ∙ ap f (time_of-owned pairs places p index.placed within) in (
      omega (arith, length-map times f, in_times),
      omega (arith, read, one_by-le pairs t p),
    ))
    (who_apart pairs places index.placed) in
    omega (arith, all.1, short, le, sum-map f times)

-- no actor that is due was left unmarked
pub marked-from_tree : (row : Row) (places : List ℕ) (t : Time) (from below : ℕ) (due : List Bool) → IsIndexed row places → ((levels : ℕ) → length row.pairs < (0 + 1) * 2 ^ levels → tree_sum (one_left row.pairs t from below due) levels 0 ≡ 0) → (i : ℕ) → from + i < below → time_of (times_of row.pairs places) (from + i) ≡ Some t → is_in due i ≡ true
marked-from_tree row places t from below due index none i b has = at (is_in due i) refl
  where
    at : (x : Bool) → is_in due i ≡ x → is_in due i ≡ true
    at true e = e
    at false e =
        let pairs = row.pairs in
        let m = length pairs in
        let all = whole_tree (one_left pairs t from below due) m in
        let enough = levels_enough m in
        let zero_all : tree_sum (one_left pairs t from below due) m 0 ≡ 0 = none m (omega (arith, enough)) in
        let own = owner_of pairs places (from + i) t index.placed has in
        let number : (pair_at pairs own.0).who.0 - from ≡ i = omega (arith, own.1.1) in
        let here = one_left-here pairs t from below due own.0 own.1.0 (ap (λ (u : Time). u.0) own.2) (omega (arith, own.1.1)) (omega (arith, own.1.1, b)) (ap (is_in due) number ∙ e) in
        absurd (omega (arith, here, zero_all, all.1, sum_below-at (one_left pairs t from below due) own.0 all.0 (omega (arith, all.2, enough, own.1.0))))

-- an actor of a pair that is due has this time
pub time_of-due : (row : Row) (places : List ℕ) (t : Time) (from who : ℕ) → IsIndexed row places → IsDue row.pairs t from who → time_of (times_of row.pairs places) who ≡ Some t
time_of-due row places t from who index due =
    ap (time_of (times_of row.pairs places)) (sym due.who_is)
    ∙ time_of-owned row.pairs places due.place index.placed due.within
    ∙ ap (λ u. Some u) due.time_is
