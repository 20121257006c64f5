-- The least of all next times and asked edges, and how a floor at a boundary goes on.
use Rattle.std.proofs.Common.{◌≡◌, ℕ, zero, suc, ◌+◌, ◌-◌, ◌<◌, ◌≤◌, ◌⊎◌, inl, inr, List, [], ◌∷◌, length, sym, ◌∙◌, ap, subst, arith, refl}
use Rattle.std.specs.Prelude.{Option, Some, None, Bool, true, false, ◌&&◌, min, not, All}
use Rattle.std.proofs.lemmas.Bool.{cases_lt}
use Rattle.sim_base.specs.declared.time.Time.{Time}
use Rattle.event_queue.specs.NextTimes.{time_of}
use Rattle.bit_set.specs.Bits.{is_in, NoneIn}
use Rattle.tick_law.specs.SerialLoop.{System, WorldState, pick}
use Rattle.model_laws.specs.NextTable.{next_at_place}
use Rattle.model_laws.specs.SideTimes.{half_of, number_of}
use Rattle.model_laws.proofs.SideTimesLaws.{half_at}
use Rattle.actor_turn.specs.Side.{AreInOrder}
use Rattle.away_rows.specs.declared.marks.Marks.{Marks}
use Rattle.away_rows.specs.Marks.{IsQuiet}
use Rattle.away_rows.specs.Bodies.{Seated}
use Rattle.port_rows.specs.Rows.{settled_rows}
use Rattle.hub_laws.specs.HubState.{HubState}
use Rattle.hub_laws.specs.declared.stage.Stage.TheVariants.{Boundary, Over}
use Rattle.hub_laws.specs.Events.{IsLeastTime, NoneBy, ended, is_none, all_back, due_parts, parts_opened, begun_with, flipped, opened}
use Rattle.hub_floor.specs.declared.floor.Floor.{Floor}
use Rattle.hub_floor.specs.Floor.{hub_state, RestsOf}
use Rattle.hub_floor.specs.Begins.{IsFirstOf, lesser_of, NothingLeft, IsLeastOf, IsEnded}
use Rattle.hub_floor.proofs.FloorGives.{of_same}
use Rattle.hub_floor.proofs.SideOpens.{none_of}
use Rattle.hub_floor.proofs.FloorOpens.{Jumped, jumps}

number_some : (o : Option Time) (n : ℕ) → number_of o ≡ Some n → o ≡ Some (record { 0 = n })
number_some None n e = absurd (cc)
number_some (Some t) n e = let f : t.0 ≡ n = cc in ap (λ (m : ℕ). let y : Time = record { 0 = m } in Some y) f

half_none : (times : List (Option Time)) → ((i : ℕ) → time_of times i ≡ None) → (first count i : ℕ) → next_at_place (half_of first count times) i ≡ None
half_none times none first zero i = refl
half_none times none first (suc n) zero = ap number_of (none first)
half_none times none first (suc n) (suc i) = half_none times none (suc first) n i

half_least : (times : List (Option Time)) (t : ℕ) → ((i : ℕ) (u : Time) → time_of times i ≡ Some u → t ≤ u.0) → (first count i n : ℕ) → next_at_place (half_of first count times) i ≡ Some n → t ≤ n
half_least times t least first zero i n e = absurd (cc)
half_least times t least first (suc c) zero n e = least first (record { 0 = n }) (number_some (time_of times first) n e)
half_least times t least first (suc c) (suc i) n e = half_least times t least (suc first) c i n e

below_time : (times : List (Option Time)) (i : ℕ) (t : Time) → time_of times i ≡ Some t → i < length times
below_time [] i t e = absurd (cc)
below_time (o ∷ os) zero t e = omega arith
below_time (o ∷ os) (suc i) t e = let b = below_time os i t e in omega (arith, b)

half_there : (times : List (Option Time)) (first count i t : ℕ) → first ≤ i → i < first + count → time_of times i ≡ Some (record { 0 = t }) → (k : ℕ) × (next_at_place (half_of first count times) k ≡ Some t)
half_there times first count i t a b e =
    let whole : first + (i - first) ≡ i = omega (arith, a) in
    (i - first, half_at first count times (i - first) (omega (arith, a, b)) ∙ ap (λ k. number_of (time_of times k)) whole ∙ ap number_of e)

min_is : (x y : ℕ) → ((min x y ≡ x) × (x ≤ y)) ⊎ ((min x y ≡ y) × (y ≤ x))
min_is x y = elim (cases_lt x y) [
  | inl l ↦ inl (grind arith, omega (arith, l))
  | inr l ↦ inr (grind arith, l)
]

no_some : (n : ℕ) (o : Option ℕ) (t : ℕ) → o ≡ None → o ≡ Some n → t ≤ n
no_some n o t e f = absurd (let g : None ≡ Some n = sym e ∙ f in cc)

module _ {P N : Type 0} where
  abbrev There : Floor P N → ℕ → Type 0
  There f t = ((i : ℕ) × (next_at_place (hub_state f).part_next i ≡ Some t)) ⊎ (((i : ℕ) × (next_at_place (hub_state f).link_next i ≡ Some t)) ⊎ ((i : ℕ) × (next_at_place (hub_state f).asked i ≡ Some t)))

  next_there : (f : Floor P N) (i t : ℕ) → AreInOrder f.part_side f.link_side (length f.next) → time_of f.next i ≡ Some (record { 0 = t }) → There f t
  next_there f i t order e = by (cases_lt i f.link_side.first)
    where
      by : (i < f.link_side.first) ⊎ (f.link_side.first ≤ i) → There f t
      by (inl l) = inl (half_there f.next f.part_side.first (length f.part_side.periods.items) i t (let s = order.start in omega (arith, s)) (let s = order.start in let n = order.then in omega (arith, s, n, l)) e)
      by (inr l) = inr (inl (half_there f.next f.link_side.first (length f.link_side.periods.items) i t l (let b = below_time f.next i (record { 0 = t }) e in let all = order.together in omega (arith, b, all)) e))

  asked_there : (f : Floor P N) (i t : ℕ) → time_of f.asked i ≡ Some (record { 0 = t }) → There f t
  asked_there f i t e = inr (inr (half_there f.asked 0 (length f.asked) i t (omega arith) (let b = below_time f.asked i (record { 0 = t }) e in omega (arith, b)) e))

  pub least_is : (f : Floor P N) (a b : Option ℕ) → AreInOrder f.part_side f.link_side (length f.next) → IsFirstOf f.next a → IsFirstOf f.asked b → IsLeastOf (hub_state f) (lesser_of a b)
  least_is f None None order none no_ask = record {
    parts = λ i. half_none f.next none f.part_side.first (length f.part_side.periods.items) i;
    links = λ i. half_none f.next none f.link_side.first (length f.link_side.periods.items) i;
    asks = λ i. half_none f.asked no_ask 0 (length f.asked) i;
  }
  least_is f None (Some y) order none first = record {
    there = asked_there f first.0.0 y first.0.1;
    part_least = λ i n e. no_some n _ y (half_none f.next none f.part_side.first (length f.part_side.periods.items) i) e;
    link_least = λ i n e. no_some n _ y (half_none f.next none f.link_side.first (length f.link_side.periods.items) i) e;
    asked_least = λ i n e. half_least f.asked y first.1 0 (length f.asked) i n e;
  }
  least_is f (Some x) None order first none = record {
    there = next_there f first.0.0 x order first.0.1;
    part_least = λ i n e. half_least f.next x first.1 f.part_side.first (length f.part_side.periods.items) i n e;
    link_least = λ i n e. half_least f.next x first.1 f.link_side.first (length f.link_side.periods.items) i n e;
    asked_least = λ i n e. no_some n _ x (half_none f.asked none 0 (length f.asked) i) e;
  }
  least_is f (Some x) (Some y) order first second = record {
    there = there_of (min_is x y);
    part_least = λ i n e. let l = half_least f.next x first.1 f.part_side.first (length f.part_side.periods.items) i n e in under_left (min_is x y) l;
    link_least = λ i n e. let l = half_least f.next x first.1 f.link_side.first (length f.link_side.periods.items) i n e in under_left (min_is x y) l;
    asked_least = λ i n e. let l = half_least f.asked y second.1 0 (length f.asked) i n e in under_right (min_is x y) l;
  }
    where
      there_of : ((min x y ≡ x) × (x ≤ y)) ⊎ ((min x y ≡ y) × (y ≤ x)) → There f (min x y)
      there_of (inl (e, l)) = subst (There f) (sym e) (next_there f first.0.0 x order first.0.1)
      there_of (inr (e, l)) = subst (There f) (sym e) (asked_there f second.0.0 y second.0.1)

      under_left : {n : ℕ} → ((min x y ≡ x) × (x ≤ y)) ⊎ ((min x y ≡ y) × (y ≤ x)) → x ≤ n → min x y ≤ n
      under_left (inl (e, l)) b = omega (arith, e, b)
      under_left (inr (e, l)) b = omega (arith, e, l, b)

      under_right : {n : ℕ} → ((min x y ≡ x) × (x ≤ y)) ⊎ ((min x y ≡ y) × (y ≤ x)) → y ≤ n → min x y ≤ n
      under_right (inl (e, l)) b = omega (arith, e, l, b)
      under_right (inr (e, l)) b = omega (arith, e, b)

-- nothing is left up to a time
pub none_by_nothing : (until : ℕ) (s : HubState) → NothingLeft s → NoneBy until s
none_by_nothing until s none = record { parts = λ i n e. lost (none.parts i) e; links = λ i n e. lost (none.links i) e; asks = λ i n e. lost (none.asks i) e }
  where
    lost : {o : Option ℕ} {n : ℕ} → o ≡ None → o ≡ Some n → until < n
    lost {o} {n} e f = absurd (let g : None ≡ Some n = sym e ∙ f in cc)

pub none_by_least : (until t : ℕ) (s : HubState) → until < t → IsLeastTime s t → NoneBy until s
none_by_least until t s l least = record {
  parts = λ i n e. (let b = least.part_least i n e in omega (arith, b, l));
  links = λ i n e. (let b = least.link_least i n e in omega (arith, b, l));
  asks = λ i n e. (let b = least.asked_least i n e in omega (arith, b, l));
}

module _ {P N : Type 0} where
  ended_as : (until d : ℕ) (f : Floor P N) → d ≡ pick f.failed f.at (until + 1) → hub_state (record f { stage = Over; at = d }) ≡ ended until (hub_state f)
  ended_as until d f e = ap (λ (n : ℕ). let s : HubState = record (hub_state f) { stage = Over; at = n } in s) e

  -- a write failed
  pub ends_here : (r : System P N) (vp : P → Type 0) (vn : N → Type 0) (until : ℕ) (f : Floor P N) → RestsOf r vp vn until f → f.stage ≡ Boundary → f.failed ≡ true → IsEnded r vp vn until f (record f { stage = Over; at = f.at })
  ends_here r vp vn until f is stage failed = record {
    may = record { stage = stage; why = inl failed };
    event = ended_as until f.at f (sym (ap (λ b. pick b f.at (until + 1)) failed));
    rest = record {
      of = of_same r vp vn until f _ is.of refl refl refl refl refl;
      rest = record { boundary = is.rest.boundary; parts_home = is.rest.parts_home; links_home = is.rest.links_home; rows_stand = is.rest.rows_stand; parts_unmarked = is.rest.parts_unmarked; links_unmarked = is.rest.links_unmarked; calm = is.rest.calm; end_is = is.rest.end_is };
      asked = is.asked;
      within = is.within;
    };
  }

  -- nothing is left up to the greatest time
  pub ends_behind : (r : System P N) (vp : P → Type 0) (vn : N → Type 0) (until : ℕ) (f : Floor P N) → RestsOf r vp vn until f → f.stage ≡ Boundary → f.failed ≡ false → NoneBy until (hub_state f) → IsEnded r vp vn until f (record f { stage = Over; at = until + 1 })
  ends_behind r vp vn until f is stage written none = record {
    may = record { stage = stage; why = inr none };
    event = ended_as until (until + 1) f (sym (ap (λ b. pick b f.at (until + 1)) written));
    rest = record {
      of = of_same r vp vn until f _ is.of refl refl refl refl refl;
      rest = record {
        boundary = j.boundary;
        parts_home = subst (λ (w : WorldState P N). Seated r.part_wires [] w.parts (λ i. []) f.parts.items) j.world is.rest.parts_home;
        links_home = subst (λ (w : WorldState P N). Seated r.link_wires [] w.links (λ i. []) f.links.items) j.world is.rest.links_home;
        rows_stand = is.rest.rows_stand ∙ ap (λ (w : WorldState P N). settled_rows w.ports r.link_wires) j.world;
        parts_unmarked = is.rest.parts_unmarked;
        links_unmarked = is.rest.links_unmarked;
        calm = is.rest.calm;
        end_is = is.rest.end_is ∙ sym j.reached.ending;
      };
      asked = λ i n e. absurd (let b = none.asks i n e in let u = (is.asked i n e).2 in omega (arith, b, u));
      within = omega arith;
    };
  }
    where
      j : Jumped r f (until + 1)
      j = jumps r vp vn until (until + 1) f is is.within (omega arith)
          (λ i n e. (let b = none.parts i n e in omega (arith, b))) (λ i n e. (let b = none.links i n e in omega (arith, b)))

-- a set that nobody is in
pub none_is : (xs : List Bool) → is_none xs ≡ true → (i : ℕ) → is_in xs i ≡ false
none_is [] e i = refl
none_is (x ∷ xs) e i = by x i e (λ h k. none_is xs h k)
  where
    by : (y : Bool) (k : ℕ) → (not y && is_none xs) ≡ true → (is_none xs ≡ true → (j : ℕ) → is_in xs j ≡ false) → is_in (y ∷ xs) k ≡ false
    by true k h rest = absurd (cc)
    by false zero h rest = refl
    by false (suc k) h rest = rest h k

pub is_none_of : (xs : List Bool) → ((i : ℕ) → is_in xs i ≡ false) → is_none xs ≡ true
is_none_of [] h = refl
is_none_of (x ∷ xs) h = ap (λ y. not y && is_none xs) (h 0) ∙ is_none_of xs (λ i. h (suc i))

pub some_in : (xs : List Bool) (i : ℕ) → is_in xs i ≡ true → is_none xs ≡ false
some_in xs i e = by (is_none xs) refl
  where
    by : (b : Bool) → is_none xs ≡ b → is_none xs ≡ false
    by false h = h
    by true h = absurd (let f : true ≡ false = sym e ∙ none_is xs h i in cc)

past_in : (xs : List Bool) (i : ℕ) → length xs ≤ i → is_in xs i ≡ false
past_in [] i b = refl
past_in (x ∷ xs) zero b = absurd (omega (arith, b))
past_in (x ∷ xs) (suc i) b = past_in xs i (omega (arith, b))

pub none_in_all : (xs : List Bool) → NoneIn xs 0 (length xs) → is_none xs ≡ true
none_in_all xs none = is_none_of xs (λ i. by i (cases_lt i (length xs)))
  where
    by : (i : ℕ) → (i < length xs) ⊎ (length xs ≤ i) → is_in xs i ≡ false
    by i (inl l) = none i (omega arith) l
    by i (inr l) = past_in xs i l

pub quiet_of : (marks : Marks) → all_back marks ≡ true → IsQuiet marks
quiet_of marks e = record { none_waits = none_is marks.waiting (left (is_none marks.waiting) (is_none marks.out) e); none_out = none_is marks.out (right (is_none marks.waiting) (is_none marks.out) e) }
  where
    left : (a b : Bool) → (a && b) ≡ true → a ≡ true
    left true b h = refl
    left false b h = absurd (cc)

    right : (a b : Bool) → (a && b) ≡ true → b ≡ true
    right true b h = h
    right false b h = absurd (cc)

pub and_true : (b : Bool) → (b && true) ≡ b
and_true true = refl
and_true false = refl

past_time : (times : List (Option Time)) (i : ℕ) → length times ≤ i → time_of times i ≡ None
past_time [] i b = refl
past_time (o ∷ os) zero b = absurd (omega (arith, b))
past_time (o ∷ os) (suc i) b = past_time os i (omega (arith, b))

-- where all are none, each is
pub each_none : (times : List (Option Time)) → All (λ time. time ≡ None) times → (i : ℕ) → time_of times i ≡ None
each_none times all i = elim (cases_lt i (length times)) [
  | inl l ↦ all i None l
  | inr l ↦ past_time times i l
]

-- the opening of a time, by whether a part waits
pub opened_for_part : (s : HubState) (t : ℕ) → is_none (due_parts s t) ≡ false → opened s t ≡ parts_opened s t
opened_for_part s t e = ap (λ b. begun_with b (parts_opened s t)) e

pub opened_for_link : (s : HubState) (t : ℕ) → is_none (due_parts s t) ≡ true → opened s t ≡ flipped (parts_opened s t)
opened_for_link s t e = ap (λ b. begun_with b (parts_opened s t)) e

module _ {P N : Type 0} where
  -- all are back exactly where nobody waits in a pass that has just opened
  pub waits_told : (r : System P N) (vp : P → Type 0) (vn : N → Type 0) (until t : ℕ) (f new : Floor P N) → RestsOf r vp vn until f → hub_state new ≡ parts_opened (hub_state f) t → all_back new.part_marks ≡ is_none (due_parts (hub_state f) t)
  waits_told r vp vn until t f new is e =
      let waiting = ap (λ (s : HubState). is_none s.part_marks.waiting) e in
      let out = ap (λ (s : HubState). s.part_marks.out) e in
      let none = none_of new.part_marks.out (length r.start.world.parts) (out ∙ ap (λ (m : Marks). m.out) is.rest.parts_unmarked) in
      ap (λ x. is_none new.part_marks.waiting && x) (is_none_of new.part_marks.out none)
      ∙ and_true (is_none new.part_marks.waiting) ∙ waiting
