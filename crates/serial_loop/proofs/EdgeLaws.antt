-- Between two edges of the serial loop nothing steps, and no next time lies there.
use Rattle.std.proofs.Common.{◌≡◌, ◌≢◌, ℕ, ◌+◌, ◌-◌, ◌*◌, ◌/◌, ◌%◌, ◌<◌, ◌≤◌, List, length, get_or, zero, suc, sym, ◌∙◌, ap, subst, arith, refl, add-one}
use Rattle.std.specs.Prelude.{Option, Some, None, Bool, true, false, ◌==◌, ◌&&◌, ◌||◌, slice_get, nat_lt}
use Rattle.std.proofs.lemmas.Bool.Decides.{nat_tests}
use Rattle.std.proofs.Math.Nat.{div-add-mod', mul-le-mul_left}
use Rattle.sim_base.specs.declared.time.TheConstants.{LATEST_TICK, LATEST_TIME}
use Rattle.tick_law.specs.Machine.{Machine}
use Rattle.tick_law.specs.Wires.{Wires}
use Rattle.tick_law.specs.WorldPlaces.{WorldPlaces}
use Rattle.tick_law.specs.Pass.{Side, has_edge, step_of}
use Rattle.tick_law.specs.Outcomes.{outcome_if, outcome_by, outcome, charge_of, steps_to, steps_of}
use Rattle.tick_law.specs.SerialLoop.{System, begun, world_at, mid, parts_of, links_of, edges_at, edges_below}
use Rattle.sim_base.specs.Edge.{edge_from}
use Rattle.tick_law.specs.NextTime.{any_from, woken, times, next_at}
use Rattle.tick_law.specs.Course.{Course, after, flag, faced, period, due_at, due_after, timer, next_in, part_course, link_course}
use Rattle.model_laws.proofs.SideCourse.{IsCourse}
use Rattle.model_laws.proofs.AwakeOrQuiet.{at_of, mod_edge}
use Rattle.model_laws.proofs.DuePassIsWhole.{at_here}
use Rattle.model_laws.proofs.NextTimesGoOn.{edge_at}
use Rattle.model_laws.proofs.OneMoreActor.{is_same, is_other}
use Rattle.model_laws.specs.Fitted.{IsSetUp, Fitted}
use Rattle.model_laws.proofs.BothCourses.{part_is, link_is}
use Rattle.model_laws.proofs.NextEdge.{edge_here}
use Rattle.model_laws.proofs.NobodyIsDue.{period_at_start}
use Rattle.model_laws.proofs.StepsFromStart.{begun_all}
use Rattle.model_laws.specs.Stepping.{Everyone}
use Rattle.model_laws.specs.NextTable.{steps_now}
use Rattle.model_laws.specs.Boundary.{IsBoundary}
use Rattle.model_laws.specs.Reached.{NoneBelow, Reached}
use Rattle.model_laws.proofs.TimesPassedOver.{jump_to}

-- the first edge from d is a multiple of the period
edge_is : (p d : ℕ) → 0 < p → (n : ℕ) × (edge_from p d ≡ n * p)
edge_is p d pos = here (d % p == 0) refl
  where
    whole : d / p * p + d % p ≡ d
    whole = div-add-mod' d p

    here : (b : Bool) → (d % p == 0) ≡ b → (n : ℕ) × (edge_from p d ≡ n * p)
    here true e = let z : d % p ≡ 0 = is_same (d % p) 0 e in (d / p, edge_at d p z ∙ (let w : d ≡ d / p * p = omega (arith, whole, z) in w))
    here false e =
        let n : d % p ≢ 0 = λ f. is_other (d % p) 0 e f in
        (suc (d / p), edge_here d p n ∙ (let l : d % p < p = omega arith in let w : d + (p - d % p) ≡ suc (d / p) * p = omega (arith, whole, l) in w))

times_lt : (x y p : ℕ) → x * p < y * p → x * p + p ≤ y * p
times_lt x y p l = here (nat_lt x y) refl
  where
    here : (b : Bool) → nat_lt x y ≡ b → x * p + p ≤ y * p
    here true e =
        let k : x + 1 ≤ y = grind (arith, nat_tests) in
        let m = mul-le-mul_left p k in
        omega (arith, m)
    here false e =
        let k : y ≤ x = grind (arith, nat_tests) in
        let m = mul-le-mul_left p k in
        absurd (omega (arith, m, l))

-- no edge lies from d on and below the first edge from d
edge_least : (p d j : ℕ) → 0 < p → d ≤ j → j % p ≡ 0 → edge_from p d ≤ j
edge_least p d j pos l z = here (d % p == 0) refl
  where
    here : (b : Bool) → (d % p == 0) ≡ b → edge_from p d ≤ j
    here true e = let f : edge_from p d ≡ d = edge_at d p (is_same (d % p) 0 e) in omega (arith, f, l)
    here false e =
        let n : d % p ≢ 0 = λ f. is_other (d % p) 0 e f in
        let f : edge_from p d ≡ d + (p - d % p) = edge_here d p n in
        let a : d / p * p + d % p ≡ d = div-add-mod' d p in
        let b : j / p * p + j % p ≡ j = div-add-mod' j p in
        let m : d % p < p = omega arith in
        let k : d / p * p < j / p * p = omega (arith, a, b, z, l, n) in
        let q = times_lt (d / p) (j / p) p k in
        omega (arith, f, a, b, q, z, m)

no_edge : (p d j : ℕ) → 0 < p → d ≤ j → j < edge_from p d → (j % p == 0) ≡ false
no_edge p d j pos l b = here (j % p == 0) refl
  where
    here : (x : Bool) → (j % p == 0) ≡ x → (j % p == 0) ≡ false
    here true e = let f = edge_least p d j pos l (is_same (j % p) 0 e) in absurd (omega (arith, f, b))
    here false e = e

times_after : (o : Option ℕ) (q p at e : ℕ) → times p o ≡ Some at → ((n : ℕ) → o ≡ Some n → q / p < n) → q % p ≡ 0 → e ≤ q + p → e ≤ at
times_after None q p at e f later z l = absurd (cc)
times_after (Some n) q p at e f later z l =
    let k : q / p + 1 ≤ n = (let m = later n refl in omega (arith, m)) in
    let m = mul-le-mul_left p k in
    let a : q / p * p + q % p ≡ q = div-add-mod' q p in
    let at_is : n * p ≡ at = cc in
    omega (arith, m, a, z, l, at_is)

woken_from : (b : Bool) (e at : ℕ) (o : Option ℕ) → woken b e o ≡ Some at → (o ≡ Some at → e ≤ at) → e ≤ at
woken_from true e at o f h = let same : e ≡ at = cc in omega (arith, same)
woken_from false e at o f h = h f

module _ {S : Type 0} where
  -- the timer after an edge lies a period on at least
  timer_from : (c : Course S) (valid : S → Type 0) (end i q e at : ℕ) → IsCourse c valid end → i < length (c.before 0).states → q + 1 ≤ end → q % period c i ≡ 0 → e ≤ q + period c i → timer c i q ≡ Some at → e ≤ at
  timer_from c valid end i q e at is b l z le f =
      let r = at_of c valid end i (q + 1) is b l in
      let state : slice_get (after c q).states i ≡ Some r.0 = ap (λ xs. slice_get xs i) (sym (is.states q)) ∙ ap (λ t. slice_get (c.before t).states i) (sym (add-one q)) ∙ r.1.is in
      let due : due_after c i q ≡ c.machine.due r.0 (q / period c i) = ap (due_at c.machine (q / period c i)) state in
      times_after (due_after c i q) q (period c i) at e f (λ n g. is.later r.0 (q / period c i) n r.1.good (sym due ∙ g)) z le

  -- a next time is no earlier than the first edge
  next_from : (c : Course S) (valid : S → Type 0) (end i g d at : ℕ) → IsCourse c valid end → i < length (c.before 0).states → d + 1 ≤ end → next_in c i g d ≡ Some at → edge_from (period c i) d ≤ at
  next_from c valid end i g d at is b l f =
      let pos = period_at_start c valid end i is b in
      by_edge (edge_from (period c i) d) refl pos
    where
      by_edge : (e : ℕ) → edge_from (period c i) d ≡ e → 0 < period c i → edge_from (period c i) d ≤ at
      by_edge zero e pos = omega (arith, e)
      by_edge (suc e) h pos =
          let p = period c i in
          let q = suc e - p in
          let m = edge_is p d pos in
          let near : edge_from p d < d + p = edge_near p d pos in
          let back : suc e ≡ m.0 * p = sym h ∙ m.1 in
          let at_q : q % p ≡ 0 = edge_back p (suc e) m.0 pos back in
          let is_next : next_at p (flag c i) (faced c i) (timer c i) g (suc e) ≡ Some at = ap (next_at p (flag c i) (faced c i) (timer c i) g) (sym h) ∙ f in
          let from : suc e ≤ at = woken_from (flag c i q || any_from (faced c i) q (g - q)) (suc e) at (timer c i q) is_next (λ x. timer_from c valid end i q (suc e) at is b (omega (arith, near, h, l)) at_q (omega arith) x) in
          omega (arith, from, h)
        where
          edge_near : (p d : ℕ) → 0 < p → edge_from p d < d + p
          edge_near p d pos = here (d % p == 0) refl
            where
              here : (x : Bool) → (d % p == 0) ≡ x → edge_from p d < d + p
              here true e = let f : edge_from p d ≡ d = edge_at d p (is_same (d % p) 0 e) in omega (arith, f)
              here false e =
                  let n : d % p ≢ 0 = λ f. is_other (d % p) 0 e f in
                  let f : edge_from p d ≡ d + (p - d % p) = edge_here d p n in
                  omega (arith, f, n)

          edge_back : (p t n : ℕ) → 0 < p → t ≡ n * p → (t - p) % p ≡ 0
          edge_back p t zero pos e = let z : t - p ≡ 0 = omega (arith, e) in ap (λ x. x % p) z ∙ (let w : 0 % p ≡ 0 = omega arith in w)
          edge_back p t (suc n) pos e = let z : t - p ≡ n * p = omega (arith, e) in ap (λ x. x % p) z ∙ mod_edge n p pos

  -- where no state has an edge, nobody steps
  no_steps : (m : Machine S) (w : Wires) (stepped : ℕ → Bool) (t : ℕ) (h : Side S) (n : ℕ) → ((i : ℕ) (s : S) → slice_get h.states i ≡ Some s → has_edge m t s ≡ false) → steps_to m w stepped t h n ≡ 0
  no_steps m w stepped t h zero none = refl
  no_steps m w stepped t h (suc n) none =
      let before : steps_to m w stepped t h n ≡ 0 = no_steps m w stepped t h n none in
      let here : charge_of (outcome m w stepped t h n) ≡ 0 = no_charge (slice_get h.states n) (none n) in
      omega (arith, before, here)
    where
      no_charge : (o : Option S) → ((s : S) → o ≡ Some s → has_edge m t s ≡ false) → charge_of (outcome_by m w stepped t h.ports n o) ≡ 0
      no_charge None none = refl
      no_charge (Some s) none = let e = none s refl in rw e (either (stepped n))
        where
          either : (b : Bool) → charge_of (outcome_if (b && false) (step_of m w t h.ports n s)) ≡ 0
          either true = refl
          either false = refl

  no_course_steps : (c : Course S) (valid : S → Type 0) (end d j : ℕ) → IsCourse c valid end → j ≤ end → d ≤ j → ((i : ℕ) → i < length (c.before 0).states → j < edge_from (period c i) d) → steps_of c.machine c.wires (begun c.from j) j (c.before j) ≡ 0
  no_course_steps c valid end d j is l from none =
      no_steps c.machine c.wires (begun c.from j) j (c.before j) (length (c.before j).states)
      (λ i s e. let h = at_here c valid end i j s is l e in let pos = period_at_start c valid end i is h.0 in ap (λ p. j % p == 0) h.1.same ∙ no_edge (period c i) d j pos from (none i h.0))

module _ {P N : Type 0} where
  -- no actor has an edge from d on and below e
  pub record NoEdge (r : System P N) (d e : ℕ) : Type 0 where
    pub parts : (i : ℕ) → i < length r.start.world.parts → e ≤ edge_from (period (part_course r) i) d
    pub links : (i : ℕ) → i < length r.start.world.links → e ≤ edge_from (period (link_course r) i) d

  pub none_below_parts : (r : System P N) (vp : P → Type 0) (vn : N → Type 0) (d e : ℕ) (world : WorldPlaces P N) (parts links : List (Option ℕ)) → IsSetUp r vp vn → d ≤ LATEST_TIME + 1 → NoEdge r d e → IsBoundary r d world parts links → NoneBelow parts (length r.start.world.parts) e
  none_below_parts r vp vn d e world parts links up l none was = record {
    none = λ i b at f. let g = next_from (part_course r) vp LATEST_TICK i d d at (part_is r vp vn up) b (omega (arith, l)) (sym (was.parts_are.at i b) ∙ f) in let h = none.parts i b in omega (arith, g, h);
  }

  pub none_below_links : (r : System P N) (vp : P → Type 0) (vn : N → Type 0) (d e : ℕ) (world : WorldPlaces P N) (parts links : List (Option ℕ)) → IsSetUp r vp vn → d ≤ LATEST_TIME + 1 → NoEdge r d e → IsBoundary r d world parts links → NoneBelow links (length r.start.world.links) e
  none_below_links r vp vn d e world parts links up l none was = record {
    none = λ i b at f. let g = next_from (link_course r) vn LATEST_TICK i (d - 1) d at (link_is r vp vn up) b (omega (arith, l)) (sym (was.links_are.at i b) ∙ f) in let h = none.links i b in omega (arith, g, h);
  }

  no_edges_at : (r : System P N) (vp : P → Type 0) (vn : N → Type 0) (d e j : ℕ) → IsSetUp r vp vn → e ≤ LATEST_TIME + 1 → NoEdge r d e → d ≤ j → j < e → edges_at r j ≡ 0
  no_edges_at r vp vn d e j up l none from below =
      let a = no_course_steps (part_course r) vp LATEST_TICK d j (part_is r vp vn up) (omega (arith, l)) from (λ i b. let h = none.parts i b in omega (arith, h, below)) in
      let b = no_course_steps (link_course r) vn LATEST_TICK d j (link_is r vp vn up) (omega (arith, l)) from (λ i b. let h = none.links i b in omega (arith, h, below)) in
      omega (arith, a, b)

  pub edges_jump : (r : System P N) (vp : P → Type 0) (vn : N → Type 0) (d e k : ℕ) → IsSetUp r vp vn → e ≤ LATEST_TIME + 1 → NoEdge r d e → d + k ≤ e → edges_below r (d + k) ≡ edges_below r d
  edges_jump r vp vn d e zero up l none b = ap (λ x. edges_below r x) (let z : d + 0 ≡ d = omega arith in z)
  edges_jump r vp vn d e (suc k) up l none b =
      let before = edges_jump r vp vn d e k up l none (omega arith) in
      let here = no_edges_at r vp vn d e (d + k) up l none (omega arith) (omega arith) in
      let more : edges_below r (d + suc k) ≡ edges_below r (d + k) + edges_at r (d + k) = ap (λ x. edges_below r x) (let z : d + suc k ≡ suc (d + k) = omega arith in z) in
      omega (arith, before, here, more)

  pub edges_to : (r : System P N) (vp : P → Type 0) (vn : N → Type 0) (d e : ℕ) → IsSetUp r vp vn → d ≤ e → e ≤ LATEST_TIME + 1 → NoEdge r d e → edges_below r e ≡ edges_below r d
  edges_to r vp vn d e up le l none =
      let z : d + (e - d) ≡ e = omega (arith, le) in
      ap (λ x. edges_below r x) (sym z) ∙ edges_jump r vp vn d e (e - d) up l none (omega (arith, z))

  -- the steps of everyone are the edges of the time
  pub everyone_counts : (r : System P N) (t : ℕ) → r.start.at ≤ t → steps_now Everyone r t ≡ edges_at r t
  everyone_counts r t l =
      ap (λ who. steps_of r.part r.part_wires who t (parts_of (world_at r t)) + steps_of r.link r.link_wires who t (links_of (mid r t))) (sym (begun_all r.start.at t l))

  pub edges_more : (r : System P N) (t e start now new : ℕ) → now ≡ start + edges_below r t → new ≡ now + edges_at r t → edges_below r e ≡ edges_below r (t + 1) → new ≡ start + edges_below r e
  edges_more r t e start now new a b c =
      let z : edges_below r (t + 1) ≡ edges_below r t + edges_at r t = ap (λ x. edges_below r x) (add-one t) in
      omega (arith, a, b, c, z)

module _ {P N : Type 0} where
  -- what was gathered up to d is what is gathered up to e, where no actor has an edge between them
  pub record Passed (r : System P N) (d e : ℕ) (world : WorldPlaces P N) (parts links : List (Option ℕ)) : Type 0 where
    pub reached : Reached r d e world parts links
    pub counted : edges_below r e ≡ edges_below r d

  pub pass_over : (r : System P N) (vp : P → Type 0) (vn : N → Type 0) (hand room d e : ℕ) (pp lp : List ℕ) (world : WorldPlaces P N) (parts links : List (Option ℕ)) → Fitted r vp vn hand room pp lp → d ≤ e → e ≤ LATEST_TIME + 1 →
      ((i : ℕ) → i < length pp → e ≤ edge_from (get_or pp i 0) d) → ((i : ℕ) → i < length lp → e ≤ edge_from (get_or lp i 0) d) → IsBoundary r d world parts links → Passed r d e world parts links
  pass_over r vp vn hand room d e pp lp world parts links f le l ep el was =
      let none : NoEdge r d e = record {
        parts = λ i b. subst (λ p. e ≤ edge_from p d) (f.part_period i b).0 (ep i (let n = f.part_count in omega (arith, b, n)));
        links = λ i b. subst (λ p. e ≤ edge_from p d) (f.link_period i b).0 (el i (let n = f.link_count in omega (arith, b, n)));
      } in
      let low : d ≤ LATEST_TIME + 1 = omega arith in
      let np = none_below_parts r vp vn d e world parts links f.set_up low none was in
      let nl = none_below_links r vp vn d e world parts links f.set_up low none was in
      record {
        reached = jump_to r vp vn d e world parts links f.set_up le l
            (λ x. subst (λ n. NoneBelow parts n e) (sym was.parts_are.long) np) (λ x. subst (λ n. NoneBelow links n e) (sym was.links_are.long) nl) was;
        counted = edges_to r vp vn d e f.set_up le l none;
      }
