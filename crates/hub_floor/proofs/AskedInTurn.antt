-- Parts that were asked to step, one after another.
use Rattle.std.proofs.Common.{◌≡◌, ◌≢◌, ℕ, zero, suc, ◌+◌, ◌-◌, ◌<◌, ◌≤◌, ◌⊎◌, inl, inr, List, length, set, sym, ◌∙◌, ap, subst, arith, refl, add-one}
use Rattle.std.specs.Prelude.{Option, Some, None, Bool, true, false, ◌||◌, ◌&&◌, ◌==◌, not}
use Rattle.std.proofs.lemmas.Bool.{cases_eq, eq-eqb}
use Rattle.std.proofs.lemmas.List.{same_lists, get_or_default, length-set, length-map, get_or-set_same, get_or-set_other}
use Rattle.sim_base.specs.declared.time.Time.{Time}
use Rattle.event_queue.specs.NextTimes.{time_of, NoneDue}
use Rattle.bit_set.specs.Bits.{is_in}
use Rattle.tick_law.specs.SerialLoop.{pick}
use Rattle.tick_law.specs.NextTime.{due_is}
use Rattle.model_laws.specs.NextTable.{next_at_place}
use Rattle.model_laws.specs.SideTimes.{half_of, number_of}
use Rattle.model_laws.proofs.SideTimesLaws.{length-half, half_at}
use Rattle.model_laws.proofs.OneMoreActor.{is_same, length-map_index}
use Rattle.hub_laws.specs.Events.{those_at, either_of, unless_at, without, count_to}
use Rattle.hub_floor.proofs.SideOpens.{those_in, either_in, without_at}

-- one is asked to step at t
abbrev is_asked : List (Option Time) → ℕ → ℕ → Bool
is_asked asked t i = due_is (number_of (time_of asked i)) t

-- the first so many were looked at
pub record Waited (t parts : ℕ) (asked : List (Option Time)) (waiting : List Bool) (at : ℕ) (now : List (Option Time)) (wait : List Bool) (alone : ℕ) : Type 0 where
  pub all : length now ≡ parts
  pub wait_all : length wait ≡ parts
  pub within : at ≤ parts
  pub dropped : (i : ℕ) → i < at → number_of (time_of now i) ≡ unless_at t (number_of (time_of asked i))
  pub left : (i : ℕ) → at ≤ i → time_of now i ≡ time_of asked i
  pub waits : (i : ℕ) → i < at → is_in wait i ≡ (is_in waiting i || is_asked asked t i)
  pub others : (i : ℕ) → at ≤ i → is_in wait i ≡ is_in waiting i
  pub counted : alone ≡ count_to (λ i. is_asked asked t i && not (is_in waiting i)) at
  pub few : alone ≤ at

pub waited_none : (t parts : ℕ) (asked : List (Option Time)) (waiting : List Bool) → length asked ≡ parts → length waiting ≡ parts → Waited t parts asked waiting 0 asked waiting 0
waited_none t parts asked waiting a b = record {
  all = a;
  wait_all = b;
  within = omega arith;
  dropped = λ i l. absurd (omega arith);
  left = λ i l. refl;
  waits = λ i l. absurd (omega arith);
  others = λ i l. refl;
  counted = refl;
  few = omega arith;
}

not_asked : (asked now : List (Option Time)) (t i : ℕ) → time_of now i ≢ Some (record { 0 = t }) → time_of now i ≡ time_of asked i → is_asked asked t i ≡ false
not_asked asked now t i n e = at (time_of asked i) refl
  where
    at : (o : Option Time) → time_of asked i ≡ o → due_is (number_of (time_of asked i)) t ≡ false
    at None f = ap (λ o. due_is (number_of o) t) f
    at (Some x) f = by (x.0 == t) refl
      where
        by : (b : Bool) → (x.0 == t) ≡ b → due_is (number_of (time_of asked i)) t ≡ false
        by false h = ap (λ o. due_is (number_of o) t) f ∙ h
        by true h = absurd (n (e ∙ f ∙ (let k : x.0 ≡ t = is_same x.0 t h in ap (λ (m : ℕ). let y : Time = record { 0 = m } in Some y) k)))

unless_not : (t : ℕ) (o : Option ℕ) → due_is o t ≡ false → unless_at t o ≡ o
unless_not t None e = refl
unless_not t (Some n) e = ap (λ b. pick b None (Some n)) e

or_no : (b : Bool) → (b || false) ≡ b
or_no true = refl
or_no false = refl

-- one more, which is not asked
one_over : (t parts : ℕ) (asked : List (Option Time)) (waiting : List Bool) (at : ℕ) (now : List (Option Time)) (wait : List Bool) (alone : ℕ) → at < parts → time_of now at ≢ Some (record { 0 = t }) → Waited t parts asked waiting at now wait alone → Waited t parts asked waiting (at + 1) now wait alone
one_over t parts asked waiting at now wait alone b n was = record {
  all = was.all;
  wait_all = was.wait_all;
  within = omega (arith, b);
  dropped = λ i l. drop i l (cases_eq i at);
  left = λ i l. was.left i (omega (arith, l));
  waits = λ i l. wait_at i l (cases_eq i at);
  others = λ i l. was.others i (omega (arith, l));
  counted = was.counted ∙ sym (ap (count_to (λ i. is_asked asked t i && not (is_in waiting i))) (add-one at) ∙ ap (λ x. count_to (λ i. is_asked asked t i && not (is_in waiting i)) at + pick (x && not (is_in waiting at)) 1 0) none ∙ (let z : count_to (λ i. is_asked asked t i && not (is_in waiting i)) at + 0 ≡ count_to (λ i. is_asked asked t i && not (is_in waiting i)) at = omega arith in z));
  few = (let f = was.few in omega (arith, f));
}
  where
    none : is_asked asked t at ≡ false
    none = not_asked asked now t at n (was.left at (omega arith))

    drop : (i : ℕ) → i < at + 1 → (i ≡ at) ⊎ (i ≢ at) → number_of (time_of now i) ≡ unless_at t (number_of (time_of asked i))
    drop i l (inl e) = subst (λ k. number_of (time_of now k) ≡ unless_at t (number_of (time_of asked k))) (sym e) (ap number_of (was.left at (omega arith)) ∙ sym (unless_not t (number_of (time_of asked at)) none))
    drop i l (inr e) = was.dropped i (omega (arith, l, e))

    wait_at : (i : ℕ) → i < at + 1 → (i ≡ at) ⊎ (i ≢ at) → is_in wait i ≡ (is_in waiting i || is_asked asked t i)
    wait_at i l (inl e) = subst (λ k. is_in wait k ≡ (is_in waiting k || is_asked asked t k)) (sym e) (was.others at (omega arith) ∙ sym (ap (λ x. is_in waiting at || x) none ∙ or_no (is_in waiting at)))
    wait_at i l (inr e) = was.waits i (omega (arith, l, e))

-- some more, of which none is asked
pub waited_over : (t parts : ℕ) (asked : List (Option Time)) (waiting : List Bool) (at k : ℕ) (now : List (Option Time)) (wait : List Bool) (alone : ℕ) → at + k ≤ parts → NoneDue now (record { 0 = t }) at (at + k) → Waited t parts asked waiting at now wait alone → Waited t parts asked waiting (at + k) now wait alone
waited_over t parts asked waiting at zero now wait alone b none was = subst (λ n. Waited t parts asked waiting n now wait alone) (let z : at ≡ at + 0 = omega arith in z) was
waited_over t parts asked waiting at (suc k) now wait alone b none was =
    subst (λ n. Waited t parts asked waiting n now wait alone) (let z : (at + k) + 1 ≡ at + suc k = omega arith in z)
    (one_over t parts asked waiting (at + k) now wait alone (omega (arith, b)) (none (at + k) (omega arith) (omega arith))
    (waited_over t parts asked waiting at k now wait alone (omega (arith, b)) (λ i l m. none i l (omega (arith, m))) was))

pub waited_to : (t parts : ℕ) (asked : List (Option Time)) (waiting : List Bool) (at to : ℕ) (now : List (Option Time)) (wait : List Bool) (alone : ℕ) → at ≤ to → to ≤ parts → NoneDue now (record { 0 = t }) at to → Waited t parts asked waiting at now wait alone → Waited t parts asked waiting to now wait alone
waited_to t parts asked waiting at to now wait alone l b none was = at_gap (to - at) (omega (arith, l))
  where
    at_gap : (k : ℕ) → at + k ≡ to → Waited t parts asked waiting to now wait alone
    at_gap k e = subst (λ n. Waited t parts asked waiting n now wait alone) e (waited_over t parts asked waiting at k now wait alone (omega (arith, e, b)) (subst (λ n. NoneDue now (record { 0 = t }) at n) (sym e) none) was)

-- one more, which is asked
pub waited_one : (t parts : ℕ) (asked : List (Option Time)) (waiting : List Bool) (at : ℕ) (now now' : List (Option Time)) (wait wait' : List Bool) (alone more : ℕ) → at < parts → time_of now at ≡ Some (record { 0 = t }) → now' ≡ set now at None → wait' ≡ set wait at true → more ≡ pick (is_in wait at) 0 1 → Waited t parts asked waiting at now wait alone → Waited t parts asked waiting (at + 1) now' wait' (alone + more)
waited_one t parts asked waiting at now now' wait wait' alone more b due cleared waits more_is was = record {
  all = ap length cleared ∙ length-set now at None ∙ was.all;
  wait_all = ap length waits ∙ length-set wait at true ∙ was.wait_all;
  within = omega (arith, b);
  dropped = λ i l. drop i l (cases_eq i at);
  left = λ i l. ap (λ x. time_of x i) cleared ∙ get_or-set_other now at i None None (omega (arith, l)) ∙ was.left i (omega (arith, l));
  waits = λ i l. wait_at i l (cases_eq i at);
  others = λ i l. ap (λ x. is_in x i) waits ∙ get_or-set_other wait at i true false (omega (arith, l)) ∙ was.others i (omega (arith, l));
  counted = count;
  few = (let f = was.few in let m = at_most (is_in wait at) more more_is in omega (arith, f, m));
}
  where
    at_most : (x : Bool) (m : ℕ) → m ≡ pick x 0 1 → m ≤ 1
    at_most true m e = omega (arith, e)
    at_most false m e = omega (arith, e)

    here : time_of asked at ≡ Some (record { 0 = t })
    here = sym (was.left at (omega arith)) ∙ due

    is : is_asked asked t at ≡ true
    is = ap (λ o. due_is (number_of o) t) here ∙ eq-eqb t t refl

    tail : (x : Bool) → (let a : ℕ = pick x 0 1 in let c : ℕ = pick (true && not x) 1 0 in a ≡ c)
    tail true = refl
    tail false = refl

    count : alone + more ≡ count_to (λ i. is_asked asked t i && not (is_in waiting i)) (at + 1)
    count =
        let m : more ≡ pick (is_asked asked t at && not (is_in waiting at)) 1 0 = more_is ∙ ap (λ x. pick x 0 1) (was.others at (omega arith)) ∙ tail (is_in waiting at) ∙ ap (λ y. pick (y && not (is_in waiting at)) 1 0) (sym is) in
        ap (λ x. x + more) was.counted
        ∙ ap (λ x. count_to (λ i. is_asked asked t i && not (is_in waiting i)) at + x) m
        ∙ ap (count_to (λ i. is_asked asked t i && not (is_in waiting i))) (sym (add-one at))

    drop : (i : ℕ) → i < at + 1 → (i ≡ at) ⊎ (i ≢ at) → number_of (time_of now' i) ≡ unless_at t (number_of (time_of asked i))
    drop i l (inl e) = subst (λ k. number_of (time_of now' k) ≡ unless_at t (number_of (time_of asked k))) (sym e)
        (ap (λ x. number_of (time_of x at)) cleared ∙ ap number_of (get_or-set_same now at None None (let a = was.all in omega (arith, b, a)))
        ∙ sym (ap (λ o. unless_at t (number_of o)) here ∙ ap (λ x. pick x None (Some t)) (eq-eqb t t refl)))
    drop i l (inr e) = ap (λ x. number_of (time_of x i)) cleared ∙ ap number_of (get_or-set_other now at i None None e) ∙ was.dropped i (omega (arith, l, e))

    or_yes : (x : Bool) → (x || true) ≡ true
    or_yes true = refl
    or_yes false = refl

    wait_at : (i : ℕ) → i < at + 1 → (i ≡ at) ⊎ (i ≢ at) → is_in wait' i ≡ (is_in waiting i || is_asked asked t i)
    wait_at i l (inl e) = subst (λ k. is_in wait' k ≡ (is_in waiting k || is_asked asked t k)) (sym e)
        (ap (λ x. is_in x at) waits ∙ get_or-set_same wait at true false (let a = was.wait_all in omega (arith, b, a)) ∙ sym (ap (λ x. is_in waiting at || x) is ∙ or_yes (is_in waiting at)))
    wait_at i l (inr e) = ap (λ x. is_in x i) waits ∙ get_or-set_other wait at i true false e ∙ was.waits i (omega (arith, l, e))

half_zero : (count : ℕ) (times : List (Option Time)) (i : ℕ) → i < count → next_at_place (half_of 0 count times) i ≡ number_of (time_of times i)
half_zero count times i b = half_at 0 count times i b ∙ ap (λ k. number_of (time_of times k)) (let z : 0 + i ≡ i = omega arith in z)

asked_in : (asked : List (Option Time)) (t parts i : ℕ) → i < parts → is_in (those_at (half_of 0 parts asked) t) i ≡ is_asked asked t i
asked_in asked t parts i b = those_in (half_of 0 parts asked) t i ∙ ap (λ o. due_is o t) (half_zero parts asked i b)

pub count_same : (a b : ℕ → Bool) (n : ℕ) → ((i : ℕ) → i < n → a i ≡ b i) → count_to a n ≡ count_to b n
count_same a b zero e = refl
count_same a b (suc n) e = ap (λ x. x + pick (a n) 1 0) (count_same a b n (λ i l. e i (omega (arith, l)))) ∙ ap (λ x. count_to b n + pick x 1 0) (e n (omega arith))

-- all were looked at
pub record AllWaited (t parts : ℕ) (asked now : List (Option Time)) (waiting wait : List Bool) (alone : ℕ) : Type 0 where
  pub asked_are : half_of 0 parts now ≡ without (half_of 0 parts asked) t
  pub waiting_are : wait ≡ either_of waiting (those_at (half_of 0 parts asked) t)
  pub counted : alone ≡ count_to (λ i. is_in (those_at (half_of 0 parts asked) t) i && not (is_in waiting i)) parts

pub waited_all : (t parts : ℕ) (asked now : List (Option Time)) (waiting wait : List Bool) (alone : ℕ) → length waiting ≡ parts → Waited t parts asked waiting parts now wait alone → AllWaited t parts asked now waiting wait alone
waited_all t parts asked now waiting wait alone long was = record {
  asked_are = same_lists (half_of 0 parts now) (without (half_of 0 parts asked) t) (length-half 0 parts now ∙ sym (length-map (half_of 0 parts asked) (unless_at t) ∙ length-half 0 parts asked))
      (λ k d b. let l : k < parts = (let h = length-half 0 parts now in omega (arith, b, h)) in
      get_or_default (half_of 0 parts now) k d None b ∙ half_zero parts now k l ∙ was.dropped k l
      ∙ sym (ap (unless_at t) (half_zero parts asked k l)) ∙ sym (without_at (half_of 0 parts asked) t k)
      ∙ get_or_default (without (half_of 0 parts asked) t) k None d (let m = length-map (half_of 0 parts asked) (unless_at t) in let h = length-half 0 parts asked in omega (arith, l, m, h)));
  waiting_are = same_lists wait (either_of waiting (those_at (half_of 0 parts asked) t)) (was.wait_all ∙ sym long ∙ sym (length-map_index (λ i x. x || is_in (those_at (half_of 0 parts asked) t) i) 0 waiting))
      (λ k d b. let l : k < parts = (let h = was.wait_all in omega (arith, b, h)) in
      get_or_default wait k d false b ∙ was.waits k l ∙ ap (λ x. is_in waiting k || x) (sym (asked_in asked t parts k l))
      ∙ sym (either_in waiting (those_at (half_of 0 parts asked) t) k (omega (arith, l, long)))
      ∙ get_or_default (either_of waiting (those_at (half_of 0 parts asked) t)) k false d (let m = length-map_index (λ i x. x || is_in (those_at (half_of 0 parts asked) t) i) 0 waiting in omega (arith, l, long, m)));
  counted = was.counted ∙ count_same (λ i. is_asked asked t i && not (is_in waiting i)) (λ i. is_in (those_at (half_of 0 parts asked) t) i && not (is_in waiting i)) parts (λ i l. ap (λ x. x && not (is_in waiting i)) (sym (asked_in asked t parts i l)));
}

-- where nobody from one place on is asked any more, all were looked at
pub waited_end : (t parts : ℕ) (asked : List (Option Time)) (waiting : List Bool) (at : ℕ) (now : List (Option Time)) (wait : List Bool) (alone : ℕ) → length waiting ≡ parts → NoneDue now (record { 0 = t }) at parts → Waited t parts asked waiting at now wait alone → AllWaited t parts asked now waiting wait alone
waited_end t parts asked waiting at now wait alone long none was = waited_all t parts asked now waiting wait alone long (waited_to t parts asked waiting at parts now wait alone was.within (omega arith) none was)
