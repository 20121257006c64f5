-- The list of optional times that a set of actors with one time shows.
use Rattle.std.proofs.Common.{◌≡◌, ◌≢◌, ℕ, eqb, ◌<◌, List, length, set, replicate, Some, None, Bool, true, false, inl, inr, refl, ap, sym, ◌∙◌, arith}
use Rattle.std.proofs.lemmas.Bool.{cases_lt, false≢true, eq-eqb}
use Rattle.std.proofs.lemmas.List.{same_lists, get_or_past, get_or-map, length-map, length-replicate, get_or-replicate, map-set}
use Rattle.std.proofs.lemmas.Option.{none-some, cond_some}
use Rattle.sim_base.specs.declared.time.Time.{Time}
use Rattle.bit_set.specs.Bits.{is_in, NoneIn, IsNext}
use Rattle.event_queue.specs.declared.key.Key.{Key}
use Rattle.event_queue.specs.NextTimes.{time_of, NoneDue, IsLeastDue}
use Rattle.event_queue.specs.Merged.{time_in, times_in, NoTimes, IsLeastKey}

pub length-times_in : (t : Time) (actors : List Bool) → length (times_in t actors) ≡ length actors
length-times_in t actors = length-map actors (time_in t)

pub times_in-at : (t : Time) (actors : List Bool) (i : ℕ) → time_of (times_in t actors) i ≡ time_in t (is_in actors i)
times_in-at t actors i = elim (cases_lt i (length actors)) [
  | inl within ↦ get_or-map (time_in t) actors i false None within
  | inr past ↦ get_or_past (times_in t actors) i None (omega (arith, length-times_in t actors, past)) ∙ sym (ap (time_in t) (get_or_past actors i false past))
]

pub time_is : (t : Time) (actors : List Bool) (i : ℕ) → is_in actors i ≡ true → time_of (times_in t actors) i ≡ Some t
time_is t actors i e = times_in-at t actors i ∙ ap (time_in t) e

pub time_from : (t : Time) (actors : List Bool) (i : ℕ) (u : Time) → time_of (times_in t actors) i ≡ Some u → (is_in actors i ≡ true) × (t ≡ u)
time_from t actors i u e = cond_some (is_in actors i) t u (sym (times_in-at t actors i) ∙ e)

pub times_in-empty : (t : Time) (n : ℕ) → times_in t (replicate n false) ≡ replicate n None
times_in-empty t n =
    same_lists _ _ (length-times_in t (replicate n false) ∙ length-replicate n false ∙ sym (length-replicate n None))
    (λ k d within.
    let in_n : k < n = omega (arith, length-times_in t (replicate n false), length-replicate n false, within) in
    get_or-map (time_in t) (replicate n false) k false d (omega (arith, length-times_in t (replicate n false), within)) ∙ ap (time_in t) (get_or-replicate n k false false in_n) ∙ sym (get_or-replicate n k None d in_n))

pub times_in-set : (t : Time) (was now : List Bool) (who : ℕ) (is : Bool) → now ≡ set was who is → times_in t now ≡ set (times_in t was) who (time_in t is)
times_in-set t was now who is e = ap (times_in t) e ∙ map-set (time_in t) was who is

pub no_times : (t : Time) (actors : List Bool) → NoneIn actors 0 (length actors) → NoTimes (times_in t actors)
no_times t actors none i = elim (cases_lt i (length actors)) [
  | inl within ↦ times_in-at t actors i ∙ ap (time_in t) (none i (omega arith) within)
  | inr past ↦ get_or_past (times_in t actors) i None (omega (arith, length-times_in t actors, past))
]

-- the time of an empty set is not seen
pub times_in-other : (t u : Time) (actors : List Bool) → NoTimes (times_in t actors) → times_in u actors ≡ times_in t actors
times_in-other t u actors none =
    same_lists _ _ (length-times_in u actors ∙ sym (length-times_in t actors))
    (λ k d within.
    let known : k < length actors = omega (arith, length-times_in u actors, within) in
    get_or-map (time_in u) actors k false d known ∙ at k (is_in actors k) refl ∙ sym (get_or-map (time_in t) actors k false d known))
  where
    at : (k : ℕ) (b : Bool) → is_in actors k ≡ b → time_in u (is_in actors k) ≡ time_in t (is_in actors k)
    at k false e = ap (time_in u) e ∙ sym (ap (time_in t) e)
    at k true e = absurd (none-some t (sym (none k) ∙ time_is t actors k e))

pub joined : (t u : Time) (was now : List Bool) (who : ℕ) → NoTimes (times_in t was) → now ≡ set was who true → times_in u now ≡ set (times_in t was) who (Some u)
joined t u was now who none e = times_in-set u was now who true e ∙ ap (λ l. set l who (Some u)) (times_in-other t u was none)

pub joined_same : (t u : Time) (was now : List Bool) (who : ℕ) → t.0 ≡ u.0 → now ≡ set was who true → times_in t now ≡ set (times_in t was) who (Some u)
joined_same t u was now who same e = times_in-set t was now who true e ∙ ap (λ n. set (times_in t was) who (Some (record { 0 = n }))) same

pub IsLeastKey-next : (t : Time) (actors : List Bool) (key : Key) → IsNext actors 0 key.who.0 → key.time ≡ t → IsLeastKey (times_in t actors) key
IsLeastKey-next t actors key next e = record {
  there = time_is t actors key.who.0 next.here ∙ ap (λ u. Some u) (sym e);
  least = λ i u has. omega (arith, ap (λ (v : Time). v.0) (e ∙ (time_from t actors i u has).1));
  lowest = λ i has. elim (cases_lt i key.who.0) [
    | inl lt ↦ absurd (false≢true (sym (next.least i (omega arith) lt) ∙ (time_from t actors i key.time has).0))
    | inr le ↦ le
  ];
}

-- who is due
pub none_due_other : (t u : Time) (actors : List Bool) (from below : ℕ) → u.0 ≢ t.0 → NoneDue (times_in t actors) u from below
none_due_other t u actors from below ne i lo hi e = ne (sym (ap (λ (v : Time). v.0) (time_from t actors i u e).1))

pub none_due_in : (t u : Time) (actors : List Bool) (from below : ℕ) → NoneIn actors from below → NoneDue (times_in t actors) u from below
none_due_in t u actors from below none i lo hi e = false≢true (sym (none i lo hi) ∙ (time_from t actors i u e).0)

pub none_due_past : (t u : Time) (actors : List Bool) (from below : ℕ) → NoneIn actors from (length actors) → NoneDue (times_in t actors) u from below
none_due_past t u actors from below none i lo hi e = elim (cases_lt i (length actors)) [
  | inl within ↦ false≢true (sym (none i lo within) ∙ (time_from t actors i u e).0)
  | inr past ↦ none-some u (sym (get_or_past (times_in t actors) i None (omega (arith, length-times_in t actors, past))) ∙ e)
]

pub least_due_in : (t u : Time) (actors : List Bool) (from below who : ℕ) → IsNext actors from who → who < below → t ≡ u → IsLeastDue (times_in t actors) u from below who
least_due_in t u actors from below who next lt e = record {
  not_below_from = next.not_below;
  below_end = lt;
  due = time_is t actors who next.here ∙ ap (λ v. Some v) e;
  least = none_due_in t u actors from who next.least;
}

pub other_time : (t u : Time) (actors : List Bool) → eqb t.0 u.0 ≡ false → (i : ℕ) → time_of (times_in t actors) i ≢ Some u
other_time t u actors out i e = false≢true (sym out ∙ eq-eqb _ _ (ap (λ (v : Time). v.0) (time_from t actors i u e).1))
