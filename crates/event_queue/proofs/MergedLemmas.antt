-- Lists of optional times that are kept apart and read as one.
use Rattle.std.proofs.Common.{◌≡◌, ◌≢◌, ℕ, zero, suc, ◌<◌, ◌≤◌, ◌⊎◌, min, List, [], ◌∷◌, length, get_or, set, replicate, sum_by, Option, Some, None, Bool, true, false, cond, inl, inr, refl, ap, sym, subst, ◌∙◌, arith}
use Rattle.std.proofs.lemmas.Bool.{cases_lt, cases_eq, cases_Bool}
use Rattle.std.proofs.lemmas.List.{same_lists, get_or-set_same, get_or-set_other, length-set, get_or_past, length-replicate, get_or-replicate, set-get_or}
use Rattle.std.proofs.lemmas.List.Sums.{sum_by-cons}
use Rattle.std.proofs.lemmas.List.FromFn.{length-map-range_with_len, get_or-map-range_with_len}
use Rattle.std.proofs.lemmas.Option.{none-some}
use Rattle.sim_base.specs.declared.time.Time.{Time}
use Rattle.event_queue.specs.NextTimes.{time_of, earlier, NoneDue, IsLeastDue, is_by, count_due_by}
use Rattle.event_queue.specs.Merged.{or_time, merged, IsApart}

pub read_within : (l : List (Option Time)) (k : ℕ) (d : Option Time) → k < length l → get_or l k d ≡ time_of l k
read_within [] k d lt = absurd (omega (arith, lt))
read_within (o ∷ l) zero d lt = refl
read_within (o ∷ l) (suc k) d lt = read_within l k d (omega (arith, lt))

pub length-merged : (x y : List (Option Time)) → length (merged x y) ≡ length x
length-merged x y = length-map-range_with_len (λ i. or_time (time_of x i) (time_of y i)) 0 (length x)

pub merged-at : (x y : List (Option Time)) (i : ℕ) → length y ≡ length x → time_of (merged x y) i ≡ or_time (time_of x i) (time_of y i)
merged-at x y i same = elim (cases_lt i (length x)) [
  | inl within ↦ get_or-map-range_with_len (λ i. or_time (time_of x i) (time_of y i)) 0 (length x) i i None within (omega arith)
  | inr past ↦ get_or_past (merged x y) i None (omega (arith, length-merged x y, past))
      ∙ sym (ap (λ o. or_time o (time_of y i)) (get_or_past x i None past) ∙ get_or_past y i None (omega (arith, same, past)))
]

module _ (x y : List (Option Time)) (a : IsApart x y) where
  pub merged-one : (i : ℕ) (t : Time) → time_of x i ≡ Some t → time_of (merged x y) i ≡ Some t
  merged-one i t e = merged-at x y i a.same_length ∙ ap (λ o. or_time o (time_of y i)) e

  pub absent_in_one : (i : ℕ) (t : Time) → time_of y i ≡ Some t → time_of x i ≡ None
  absent_in_one i t e = at (time_of x i) refl
    where
      at : (o : Option Time) → time_of x i ≡ o → time_of x i ≡ None
      at None f = f
      at (Some u) f = absurd (none-some t (sym (a.apart i u f) ∙ e))

  pub merged-none : (i : ℕ) → time_of x i ≡ None → time_of (merged x y) i ≡ time_of y i
  merged-none i f = merged-at x y i a.same_length ∙ ap (λ o. or_time o (time_of y i)) f

  pub merged-other : (i : ℕ) (t : Time) → time_of y i ≡ Some t → time_of (merged x y) i ≡ Some t
  merged-other i t e = merged-none i (absent_in_one i t e) ∙ e

  pub merged-from : (i : ℕ) (t : Time) → time_of (merged x y) i ≡ Some t → (time_of x i ≡ Some t) ⊎ (time_of y i ≡ Some t)
  merged-from i t e = at (time_of x i) refl
    where
      read : or_time (time_of x i) (time_of y i) ≡ Some t
      read = sym (merged-at x y i a.same_length) ∙ e

      at : (o : Option Time) → time_of x i ≡ o → (time_of x i ≡ Some t) ⊎ (time_of y i ≡ Some t)
      at None f = inr (sym (ap (λ o. or_time o (time_of y i)) f) ∙ read)
      at (Some u) f = inl (f ∙ sym (ap (λ o. or_time o (time_of y i)) f) ∙ read)

  -- where neither has a time
  pub absent_in_both : (i : ℕ) → time_of (merged x y) i ≡ None → (time_of x i ≡ None) × (time_of y i ≡ None)
  absent_in_both i e = at (time_of x i) refl
    where
      read : or_time (time_of x i) (time_of y i) ≡ None
      read = sym (merged-at x y i a.same_length) ∙ e

      at : (o : Option Time) → time_of x i ≡ o → (time_of x i ≡ None) × (time_of y i ≡ None)
      at None f = (f, sym (ap (λ o. or_time o (time_of y i)) f) ∙ read)
      at (Some u) f = absurd (none-some u (sym (sym (ap (λ o. or_time o (time_of y i)) f) ∙ read)))

  -- who is due
  pub none_due : (t : Time) (from below : ℕ) → NoneDue x t from below → NoneDue y t from below → NoneDue (merged x y) t from below
  none_due t from below one other i lo hi e = elim (merged-from i t e) [
    | inl f ↦ one i lo hi f
    | inr f ↦ other i lo hi f
  ]

  pub due_one : (t : Time) (from below who : ℕ) → IsLeastDue x t from below who → NoneDue y t from who → IsLeastDue (merged x y) t from below who
  due_one t from below who one other = record {
    not_below_from = one.not_below_from;
    below_end = one.below_end;
    due = merged-one who t one.due;
    least = none_due t from who one.least other;
  }

  pub due_other : (t : Time) (from below end who : ℕ) → NoneDue x t from end → end ≤ below → IsLeastDue y t from end who → IsLeastDue (merged x y) t from below who
  due_other t from below end who one le other = record {
    not_below_from = other.not_below_from;
    below_end = omega (arith, other.below_end, le);
    due = merged-other who t other.due;
    least = none_due t from who (λ i lo hi. one i lo (omega (arith, hi, other.below_end))) other.least;
  }

  pub count_other : (t : Time) → count_due_by y t ≤ count_due_by (merged x y) t
  count_other t = count-le (λ o. cond (is_by t o) 1 0) y (merged x y) (a.same_length ∙ sym (length-merged x y)) (λ i. at i (time_of y i) refl)
    where
      count-le : (f : Option Time → ℕ) (xs ys : List (Option Time)) → length xs ≡ length ys → ((i : ℕ) → f (time_of xs i) ≤ f (time_of ys i)) → sum_by f xs ≤ sum_by f ys
      count-le f [] ys e h = omega arith
      count-le f (v ∷ xs) [] e h = absurd (omega (arith, e))
      count-le f (v ∷ xs) (w ∷ ys) e h = omega (arith, h zero, count-le f xs ys (omega (arith, e)) (λ i. h (suc i)), sum_by-cons f v xs, sum_by-cons f w ys)

      at : (i : ℕ) (o : Option Time) → time_of y i ≡ o → cond (is_by t (time_of y i)) 1 0 ≤ cond (is_by t (time_of (merged x y) i)) 1 0
      at i None e = omega (arith, ap {B = ℕ} (λ o. cond (is_by t o) 1 0) e)
      at i (Some u) e = omega (arith, ap {B = ℕ} (λ o. cond (is_by t o) 1 0) (e ∙ sym (merged-other i u e)))

pub time_of-empty : (n i : ℕ) → time_of (replicate n None) i ≡ None
time_of-empty n i = elim (cases_lt i n) [
  | inl within ↦ get_or-replicate n i None None within
  | inr past ↦ get_or_past (replicate n None) i None (omega (arith, past, length-replicate {A = Option Time} n None))
]

pub apart-empty : (x y : List (Option Time)) (n : ℕ) → x ≡ replicate n None → y ≡ replicate n None → IsApart x y
apart-empty x y n e f = record {
  same_length = ap length (f ∙ sym e);
  apart = λ i t h. ap (λ l. time_of l i) f ∙ time_of-empty n i;
}

pub merged-empty : (x y : List (Option Time)) (n : ℕ) → x ≡ replicate n None → y ≡ replicate n None → merged x y ≡ replicate n None
merged-empty x y n e f =
    let a = apart-empty x y n e f in
    same_lists _ _ (length-merged x y ∙ ap length e)
    (λ k d within.
    read_within (merged x y) k d within ∙ merged-none x y a k (ap (λ l. time_of l k) e ∙ time_of-empty n k) ∙ ap (λ l. time_of l k) f
    ∙ sym (read_within (replicate n None) k d (omega (arith, within, length-merged x y, ap length e))))

-- one actor has this time now, and each other actor's is the same
pub record Sets (was now : List (Option Time)) (who : ℕ) (time : Option Time) : Type 0 where
  pub count : length now ≡ length was
  pub here : time_of now who ≡ time
  pub others : (i : ℕ) → i ≢ who → time_of now i ≡ time_of was i

pub Sets-is : (was now : List (Option Time)) (who : ℕ) (time : Option Time) → who < length was → now ≡ set was who time → Sets was now who time
Sets-is was now who time known e = record {
  count = ap length e ∙ length-set was who time;
  here = ap (λ l. time_of l who) e ∙ get_or-set_same was who time None known;
  others = λ i ne. ap (λ l. time_of l i) e ∙ get_or-set_other was who i time None ne;
}

pub Sets-same : (was now : List (Option Time)) (who : ℕ) (time : Option Time) → now ≡ was → time_of was who ≡ time → Sets was now who time
Sets-same was now who time e has = record {
  count = ap length e;
  here = ap (λ l. time_of l who) e ∙ has;
  others = λ i ne. ap (λ l. time_of l i) e;
}

pub Sets-then : (x y z : List (Option Time)) (who : ℕ) (u v : Option Time) → Sets x y who u → Sets y z who v → Sets x z who v
Sets-then x y z who u v s r = record {
  count = r.count ∙ s.count;
  here = r.here;
  others = λ i ne. r.others i ne ∙ s.others i ne;
}

pub set_from : (was now : List (Option Time)) (who : ℕ) (time : Option Time) → who < length was → Sets was now who time → now ≡ set was who time
set_from was now who time known s =
    same_lists _ _ (s.count ∙ sym (length-set was who time)) (λ k d within. read_within now k d within ∙ at k (cases_eq k who) ∙ sym (read_within (set was who time) k d (omega (arith, within, s.count, length-set was who time))))
  where
    at : (k : ℕ) → (k ≡ who) ⊎ (k ≢ who) → time_of now k ≡ time_of (set was who time) k
    at k (inl e) = ap (time_of now) e ∙ s.here ∙ sym (ap (time_of (set was who time)) e ∙ get_or-set_same was who time None known)
    at k (inr ne) = s.others k ne ∙ sym (get_or-set_other was who k time None ne)

-- a change in both lists, after which at most one of them has a time of this actor
module _ (x y x' y' : List (Option Time)) (who : ℕ) (u v : Option Time) (a : IsApart x y) (one : Sets x x' who u) (other : Sets y y' who v) where
  same_now : length y' ≡ length x'
  same_now = other.count ∙ a.same_length ∙ sym one.count

  pub apart_now : ((t : Time) → u ≡ Some t → v ≡ None) → IsApart x' y'
  apart_now h = record {
    same_length = same_now;
    apart = λ i t e. elim (cases_eq i who) [
      | inl same ↦ ap (time_of y') same ∙ other.here ∙ h t (sym one.here ∙ ap (time_of x') (sym same) ∙ e)
      | inr ne ↦ other.others i ne ∙ a.apart i t (sym (one.others i ne) ∙ e)
    ];
  }

  pub Sets-merged : Sets (merged x y) (merged x' y') who (or_time u v)
  Sets-merged = record {
    count = length-merged x' y' ∙ one.count ∙ sym (length-merged x y);
    here = merged-at x' y' who same_now ∙ ap (λ o. or_time o (time_of y' who)) one.here ∙ ap (or_time u) other.here;
    others = λ i ne. merged-at x' y' i same_now ∙ ap (λ o. or_time o (time_of y' i)) (one.others i ne) ∙ ap (or_time (time_of x i)) (other.others i ne) ∙ sym (merged-at x y i a.same_length);
  }

  pub merged_now : who < length x → merged x' y' ≡ set (merged x y) who (or_time u v)
  merged_now known = set_from _ _ who _ (omega (arith, known, length-merged x y)) Sets-merged

-- an actor that has a time in neither list may get one in either
pub joined_one : (x y x' : List (Option Time)) (who : ℕ) (t : Time) (done : Bool) → IsApart x y → who < length x → time_of y who ≡ None → (done ≡ true → x' ≡ set x who (Some t)) → (done ≡ false → x' ≡ x) → IsApart x' y
joined_one x y x' who t done a known gone joined refused = elim (cases_Bool done) [
  | inl is ↦ apart_now x y x' y who (Some t) None a (Sets-is x x' who (Some t) known (joined is)) (Sets-same y y who None refl gone) (λ _ _. refl)
  | inr out ↦ subst (λ l. IsApart l y) (sym (refused out)) a
]

pub joined_other : (x y y' : List (Option Time)) (who : ℕ) (t : Time) (done : Bool) → IsApart x y → who < length x → time_of x who ≡ None → (done ≡ true → y' ≡ set y who (Some t)) → (done ≡ false → y' ≡ y) → IsApart x y'
joined_other x y y' who t done a known gone joined refused = elim (cases_Bool done) [
  | inl is ↦ apart_now x y x y' who None (Some t) a (Sets-same x x who None refl gone) (Sets-is y y' who (Some t) (omega (arith, known, a.same_length)) (joined is)) (λ u e. absurd (none-some u e))
  | inr out ↦ subst (λ l. IsApart x l) (sym (refused out)) a
]

-- the earlier of two times of an actor
pub put_earlier : (x y x' z times : List (Option Time)) (who : ℕ) (t u : Time) → IsApart x y → who < length x → merged x y ≡ times → x' ≡ set x who None → z ≡ set (merged x' y) who (Some t) → time_of x who ≡ Some u → t.0 < u.0 → z ≡ set times who (Some (earlier (time_of times who) t))
put_earlier x y x' z times who t u a known view gone put has less =
    let in_all : who < length (merged x y) = omega (arith, known, length-merged x y) in
    let cleared = Sets-is x x' who None known gone in
    let first = Sets-merged x y x' y who None None a cleared (Sets-same y y who None refl (a.apart who u has)) in
    let all = Sets-then (merged x y) (merged x' y) z who None (Some t) first (Sets-is (merged x' y) z who (Some t) (omega (arith, in_all, first.count)) put) in
    let was : time_of times who ≡ Some u = sym (ap (λ l. time_of l who) view) ∙ merged-one x y a who u has in
    let least : min u.0 t.0 ≡ t.0 = omega (arith, less) in
    let is : earlier (time_of times who) t ≡ t = ap (λ o. earlier o t) was ∙ ap (λ n. record { 0 = n }) least in
    set_from (merged x y) z who (Some t) in_all all ∙ ap (λ l. set l who (Some t)) view ∙ ap (λ v. set times who (Some v)) (sym is)

pub keep_earlier : (x y times : List (Option Time)) (who : ℕ) (t u : Time) → IsApart x y → merged x y ≡ times → time_of x who ≡ Some u → u.0 ≤ t.0 → merged x y ≡ set times who (Some (earlier (time_of times who) t))
keep_earlier x y times who t u a view has le =
    let was : time_of times who ≡ Some u = sym (ap (λ l. time_of l who) view) ∙ merged-one x y a who u has in
    let least : min u.0 t.0 ≡ u.0 = omega (arith, le) in
    let is : earlier (time_of times who) t ≡ u = ap (λ o. earlier o t) was ∙ ap (λ n. record { 0 = n }) least in
    view ∙ sym (ap (λ v. set times who (Some v)) is ∙ ap (set times who) (sym was) ∙ set-get_or times who None)

-- an actor that is due in the lists that are read as one is due in one of them
module _ (x y : List (Option Time)) (times : List (Option Time)) (a : IsApart x y) (view : merged x y ≡ times) (t : Time) (i : ℕ) where
  pub either_of : time_of times i ≡ Some t → (time_of x i ≡ Some t) ⊎ (time_of y i ≡ Some t)
  either_of e = merged-from x y a i t (ap (λ l. time_of l i) view ∙ e)
