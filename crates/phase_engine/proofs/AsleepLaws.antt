-- Who is not due at its first edge from a boundary is asleep there.
use Rattle.std.proofs.Common.{◌≡◌, ℕ, ◌+◌, ◌-◌, ◌*◌, ◌/◌, ◌%◌, ◌<◌, ◌≤◌, ◌⊎◌, inl, inr, List, length, zero, suc, sym, ◌∙◌, ap, subst, arith, refl}
use Rattle.std.specs.Prelude.{Option, Some, None, Bool, true, false, ◌==◌, ◌||◌, slice_get, slice_index_or}
use Rattle.std.proofs.lemmas.Bool.{cases_lt, false≢true, eq-eqb}
use Rattle.std.proofs.lemmas.Nat.{mod-mul-add}
use Rattle.std.proofs.lemmas.Option.{slice_get_within}
use Rattle.std.proofs.Math.Nat.{div-add-mod'}
use Rattle.sim_base.specs.Edge.{edge_from, edge_past}
use Rattle.sim_base.specs.declared.time.TheConstants.{LATEST_TICK, LATEST_TIME}
use Rattle.port_msg.specs.PortView.{PortView}
use Rattle.port_rows.specs.World.{state_of}
use Rattle.tick_law.specs.Machine.{Machine}
use Rattle.tick_law.specs.Wires.{own_of}
use Rattle.tick_law.specs.Pass.{Side, gather, has_edge}
use Rattle.tick_law.specs.Face.{SameFaces}
use Rattle.tick_law.specs.Quiet.{Asleep}
use Rattle.tick_law.specs.Starts.{AreAsleep}
use Rattle.tick_law.specs.NextTime.{any_from, due_is, next_at, woken}
use Rattle.tick_law.specs.Course.{Course, after, flag, faced, period, timer, next_in, ready, ticked, part_course, link_course}
use Rattle.tick_law.specs.SerialLoop.{Start, System, WorldState, world_at, parts_of, links_of}
use Rattle.tick_law.specs.PlanView.{PlanView, system_from}
use Rattle.model_laws.proofs.SideCourse.{IsCourse}
use Rattle.model_laws.proofs.FacesKept.{or_left, or_right, faces_refl, faces_trans}
use Rattle.model_laws.proofs.StepsFromStart.{state_stays, ports_stay}
use Rattle.model_laws.proofs.SleepersChangeNothing.{Still}
use Rattle.model_laws.proofs.OneMoreActor.{is_same}
use Rattle.model_laws.proofs.AwakeOrQuiet.{at_of, stays, rested, mod_between, mod_edge, is_zero, cycle_of, edge_then}
use Rattle.model_laws.proofs.NextEdge.{next_some}
use Rattle.model_laws.proofs.NextTimesGoOn.{edge_at}
use Rattle.model_laws.proofs.BothCourses.{part_is, link_is, world_good}
use Rattle.model_laws.specs.NextTable.{IsTable}
use Rattle.model_laws.specs.SideTimes.{half_of}
use Rattle.model_laws.specs.Fitted.{IsSetUp}
use Rattle.phase_engine.specs.declared.run.Run.{Run}
use Rattle.phase_engine.specs.Run.{IsRun}
use Rattle.phase_engine.specs.Asleep.{WhoWaitsIsAsleep}
use Rattle.phase_engine.proofs.EngineLaws.{world_is}

-- the first edge from a time that lies behind edge n * p, and no more than p
edge_is : (n p k : ℕ) → k < p → edge_from p (n * p + suc k) ≡ n * p + p
edge_is n p k b = here (cases_lt (suc k) p)
  where
    here : (suc k < p) ⊎ (p ≤ suc k) → edge_from p (n * p + suc k) ≡ n * p + p
    here (inl l) =
        ap (λ r. edge_past p (n * p + suc k) r) (mod-mul-add n p (suc k) l)
        ∙ (let z : n * p + suc k + (p - suc k) ≡ n * p + p = omega (arith, l) in z)
    here (inr g) =
        let e : n * p + suc k ≡ n * p + p = omega (arith, b, g) in
        ap (λ d. edge_from p d) e ∙ edge_at (n * p + p) p (edge_then n p (omega (arith, b)))

woken_no : (x : Bool) (e : ℕ) (o : Option ℕ) → due_is (woken x e o) e ≡ false → x ≡ false
woken_no true e o f = absurd (false≢true (sym f ∙ eq-eqb e e refl))
woken_no false e o f = refl

some_same : {S : Type 0} (o : Option S) (a b : S) → o ≡ Some a → o ≡ Some b → a ≡ b
some_same o a b e f = cc

module _ {S : Type 0} where
  -- what keeps an actor from its first edge: neither its step at the edge before nor a face since
  cause : (c : Course S) (i g n k : ℕ) → k < period c i → due_is (next_in c i g (n * period c i + suc k)) (n * period c i + period c i) ≡ false → (flag c i (n * period c i) || any_from (faced c i) (n * period c i) (g - n * period c i)) ≡ false
  cause c i g n k b f =
      let p = period c i in
      let q = n * p in
      let next : next_in c i g (q + suc k) ≡ woken (flag c i q || any_from (faced c i) q (g - q)) (q + p) (timer c i q) =
      ap (next_at p (flag c i) (faced c i) (timer c i) g) (edge_is n p k b)
      ∙ next_some p (flag c i) (faced c i) (timer c i) g (q + p) q (g - q) (omega (arith, b)) (omega arith) refl in
      woken_no (flag c i q || any_from (faced c i) q (g - q)) (q + p) (timer c i q) (sym (ap (λ o. due_is o (q + p)) next) ∙ f)

  -- an actor at its edge n * p, from which on it rests
  record Rests (c : Course S) (i g n p : ℕ) (s : S) : Type 0 where
    pub at : slice_get (c.before (n * p)).states i ≡ Some s
    pub per : c.machine.period s ≡ p
    pub all : 0 < p
    pub still : c.from ≤ n * p → Still c.machine c.wires (n * p) (c.before (n * p)).ports i s
    pub asleep : Asleep S c.machine s (gather (c.before (n * p)).ports (own_of c.wires i)) n
    pub no_face : any_from (faced c i) (n * p) (g - n * p) ≡ false

  rests : (c : Course S) (valid : S → Type 0) (end i g n k : ℕ) → IsCourse c valid end → i < length (c.before 0).states → n * period c i + suc k ≤ end → c.from ≤ n * period c i + suc k → k < period c i → due_is (next_in c i g (n * period c i + suc k)) (n * period c i + period c i) ≡ false → (s : S) × Rests c i g n (period c i) s
  rests c valid end i g n k is below l from b f =
      let p = period c i in
      let q = n * p in
      let r = at_of c valid end i q is below (omega (arith, l)) in
      let s = r.0 in
      let none = cause c i g n k b f in
      let pos : 0 < p = omega (arith, b) in
      let edge : has_edge c.machine q s ≡ true = is_zero (q % c.machine.period s) (ap (λ x. q % x) r.1.same ∙ mod_edge n p pos) in
      let rest = rested c valid end i q s is r.1 edge (omega (arith, from, b)) (or_left _ _ none) in
      let cycle : q / c.machine.period s ≡ n = ap (λ x. q / x) r.1.same ∙ cycle_of n p pos in (
        s,
        record {
          at = r.1.is;
          per = r.1.same;
          all = pos;
          still = rest.still;
          asleep = subst (λ k. Asleep S c.machine s (gather (c.before q).ports (own_of c.wires i)) k) cycle rest.asleep;
          no_face = or_right _ _ none;
        },
      )

  -- so it is found before its side's pass
  found_before : (c : Course S) (valid : S → Type 0) (end i g n k p : ℕ) (s : S) → IsCourse c valid end → n * p + k < end → k < p → g - n * p ≡ suc k → Rests c i g n p s →
      (slice_get (c.before (suc (n * p + k))).states i ≡ Some s) × SameFaces c.side (gather (c.before (n * p)).ports (own_of c.wires i)) (gather (c.before (suc (n * p + k))).ports (own_of c.wires i))
  found_before c valid end i g n k p s is l b many r =
      let back = sym r.per in
      subst (λ x. (slice_get (c.before (suc (n * x + k))).states i ≡ Some s) × SameFaces c.side (gather (c.before (n * x)).ports (own_of c.wires i)) (gather (c.before (suc (n * x + k))).ports (own_of c.wires i))) r.per
      (stays c valid end i n k s is (subst (λ x. 0 < x) back r.all) (subst (λ x. k < x) back b) (subst (λ x. n * x + k < end) back l)
      (subst (λ x. slice_get (c.before (n * x)).states i ≡ Some s) back r.at)
      (subst (λ x. c.from ≤ n * x → Still c.machine c.wires (n * x) (c.before (n * x)).ports i s) back r.still)
      (subst (λ x. any_from (faced c i) (n * x) (suc k) ≡ false) back (ap (λ m. any_from (faced c i) (n * p) m) (sym many) ∙ r.no_face)))

  -- and after it
  found_after : (c : Course S) (valid : S → Type 0) (end i g n k p : ℕ) (s : S) → IsCourse c valid end → n * p + k < end → k < p → g - n * p ≡ k → Rests c i g n p s →
      (slice_get (after c (n * p + k)).states i ≡ Some s) × SameFaces c.side (gather (c.before (n * p)).ports (own_of c.wires i)) (gather (after c (n * p + k)).ports (own_of c.wires i))
  found_after c valid end i g n zero p s is l b many r =
      let q = n * p in
      let z : q ≡ q + 0 = omega arith in
      let own = own_of c.wires i in
      let still = λ (a : c.from ≤ q) (e : has_edge c.machine q s ≡ true). r.still a in
      subst (λ u. (slice_get (after c u).states i ≡ Some s) × SameFaces c.side (gather (c.before q).ports own) (gather (after c u).ports own)) z (
        state_stays c i q s r.at still,
        subst (λ ps. SameFaces c.side (gather (c.before q).ports own) ps) (sym (ports_stay c i q s (is.wired q) r.at still)) (faces_refl c.side (gather (c.before q).ports own)),
      )
  found_after c valid end i g n (suc k) p s is l b many r =
      let q = n * p in
      let own = own_of c.wires i in
      let u = suc (q + k) in
      let z : u ≡ q + suc k = omega arith in
      let was = found_before c valid end i g n k p s is (omega (arith, l)) (omega (arith, b)) many r in
      let off : has_edge c.machine u s ≡ false = ap (λ x. u % x == 0) r.per ∙ ap (λ x. x % p == 0) z ∙ mod_between n p (suc k) (omega arith) b in
      let still = λ (a : c.from ≤ u) (e : has_edge c.machine u s ≡ true). absurd (false≢true (sym off ∙ e)) in
      subst (λ u. (slice_get (after c u).states i ≡ Some s) × SameFaces c.side (gather (c.before q).ports own) (gather (after c u).ports own)) z (
        state_stays c i u s was.0 still,
        subst (λ ps. SameFaces c.side (gather (c.before q).ports own) ps) (sym (ports_stay c i u s (is.wired u) was.0 still)) was.1,
      )

  -- who is asleep stays so behind the same faces
  asleep_still : (m : Machine S) (side : Bool) (s : S) (before now : List PortView) (n : ℕ) → m.is_part ≡ side → SameFaces side before now → Asleep S m s before n → Asleep S m s now n
  asleep_still m side s before now n e same was = λ others k faces past below.
      was others k (faces_trans m.is_part before now others (subst (λ x. SameFaces x before now) (sym e) same) faces) past below

  -- what is asked of a side, where each edge is named by its number
  as_asked : (c : Course S) (i d : ℕ) (next : List (Option ℕ)) (g : ℕ) (h : Side S) →
      ((s : S) → slice_get h.states i ≡ Some s → c.machine.period s ≡ period c i) →
      (i < length h.states → slice_index_or next i None ≡ next_in c i g d) →
      ((n k : ℕ) (s : S) → slice_get h.states i ≡ Some s → k < period c i → d ≡ n * period c i + suc k → due_is (next_in c i g (n * period c i + suc k)) (n * period c i + period c i) ≡ false → Asleep S c.machine s (gather h.ports (own_of c.wires i)) n) →
      (t : ℕ) (s : S) → slice_get h.states i ≡ Some s → has_edge c.machine t s ≡ true → t < d → d ≤ t + c.machine.period s → due_is (slice_index_or next i None) (t + c.machine.period s) ≡ false → Asleep S c.machine s (gather h.ports (own_of c.wires i)) (t / c.machine.period s)
  as_asked c i d next g h same table each t s at edge below near rests =
      let p = period c i in
      let per = same s at in
      let n = t / p in
      let zero : t % p ≡ 0 = ap (λ x. t % x) (sym per) ∙ is_same (t % c.machine.period s) 0 edge in
      let tn : n * p ≡ t = omega (arith, div-add-mod' t p, zero) in
      let k = d - suc t in
      let dn : d ≡ n * p + suc k = omega (arith, below, tn) in
      let small : k < p = omega (arith, near, per, below) in
      let due : due_is (next_in c i g (n * p + suc k)) (n * p + p) ≡ false =
      ap (λ x. due_is (next_in c i g x) (n * p + p)) (sym dn)
      ∙ ap (λ o. due_is o (n * p + p)) (sym (table (slice_get_within h.states i s at)))
      ∙ ap (λ x. due_is (slice_index_or next i None) x) (let z : n * p + p ≡ t + c.machine.period s = omega (arith, tn, per) in z)
      ∙ rests in
      subst (λ x. Asleep S c.machine s (gather h.ports (own_of c.wires i)) x) (ap (λ x. t / x) (sym per)) (each n k s at small dn due)

  period_at_d : (c : Course S) (valid : S → Type 0) (end i d : ℕ) (s : S) → IsCourse c valid end → i < length (c.before 0).states → d ≤ end → slice_get (c.before d).states i ≡ Some s → c.machine.period s ≡ period c i
  period_at_d c valid end i d s is below l at =
      let r = at_of c valid end i d is below l in
      ap (λ x. c.machine.period x) (some_same (slice_get (c.before d).states i) s r.0 at r.1.is) ∙ r.1.same

  -- a side that has its pass at d still before it
  side_before : (c : Course S) (valid : S → Type 0) (end d : ℕ) (next : List (Option ℕ)) → IsCourse c valid end → d ≤ end → c.from ≤ d → length (c.before d).states ≡ length (c.before 0).states → ((i : ℕ) → i < length (c.before 0).states → slice_index_or next i None ≡ next_in c i d d) → AreAsleep c.machine c.wires d next (c.before d)
  side_before c valid end d next is l from count table i t s at edge below near rests_at =
      let there : i < length (c.before 0).states = (let w = slice_get_within (c.before d).states i s at in omega (arith, w, count)) in
      as_asked c i d next d (c.before d)
      (λ x e. period_at_d c valid end i d x is there l e)
      (λ b. table i there)
      (λ n k x e small dn due.
      let p = period c i in
      let rr = rests c valid end i d n k is there (omega (arith, l, dn)) (omega (arith, from, dn)) small due in
      let found = found_before c valid end i d n k p rr.0 is (omega (arith, l, dn)) small (omega (arith, dn)) rr.1 in
      let z : suc (n * p + k) ≡ d = omega (arith, dn) in
      let here : slice_get (c.before d).states i ≡ Some rr.0 = subst (λ u. slice_get (c.before u).states i ≡ Some rr.0) z found.0 in
      let faces = subst (λ u. SameFaces c.side (gather (c.before (n * p)).ports (own_of c.wires i)) (gather (c.before u).ports (own_of c.wires i))) z found.1 in
      subst (λ y. Asleep S c.machine y (gather (c.before d).ports (own_of c.wires i)) n) (some_same (slice_get (c.before d).states i) rr.0 x here e)
      (asleep_still c.machine c.side rr.0 (gather (c.before (n * p)).ports (own_of c.wires i)) (gather (c.before d).ports (own_of c.wires i)) n is.sided faces rr.1.asleep))
      t s at edge below near rests_at

  -- and one that has had its pass at u
  side_after : (c : Course S) (valid : S → Type 0) (end u : ℕ) (next : List (Option ℕ)) → IsCourse c valid end → suc u ≤ end → c.from ≤ suc u → length (after c u).states ≡ length (c.before 0).states → ((i : ℕ) → i < length (c.before 0).states → slice_index_or next i None ≡ next_in c i u (suc u)) → AreAsleep c.machine c.wires (suc u) next (after c u)
  side_after c valid end u next is l from count table i t s at edge below near rests_at =
      let h = after c u in
      let there : i < length (c.before 0).states = (let w = slice_get_within h.states i s at in omega (arith, w, count)) in
      as_asked c i (suc u) next u h
      (λ x e. period_at_d c valid end i (suc u) x is there l (ap (λ xs. slice_get xs i) (is.states u) ∙ e))
      (λ b. table i there)
      (λ n k x e small dn due.
      let p = period c i in
      let rr = rests c valid end i u n k is there (omega (arith, l, dn)) (omega (arith, from, dn)) small due in
      let found = found_after c valid end i u n k p rr.0 is (omega (arith, l, dn)) small (omega (arith, dn)) rr.1 in
      let z : n * p + k ≡ u = omega (arith, dn) in
      let here : slice_get h.states i ≡ Some rr.0 = subst (λ v. slice_get (after c v).states i ≡ Some rr.0) z found.0 in
      let faces = subst (λ v. SameFaces c.side (gather (c.before (n * p)).ports (own_of c.wires i)) (gather (after c v).ports (own_of c.wires i))) z found.1 in
      subst (λ y. Asleep S c.machine y (gather h.ports (own_of c.wires i)) n) (some_same (slice_get h.states i) rr.0 x here e)
      (asleep_still c.machine c.side rr.0 (gather (c.before (n * p)).ports (own_of c.wires i)) (gather h.ports (own_of c.wires i)) n is.sided faces rr.1.asleep))
      t s at edge below near rests_at

module _ {P N : Type 0} where
  links_at : (r : System P N) (vp : P → Type 0) (vn : N → Type 0) (d : ℕ) (next : List (Option ℕ)) → IsSetUp r vp vn → d ≤ LATEST_TIME + 1 → r.start.at ≤ d → IsTable next (λ j. ticked (link_course r) j d) (length r.start.world.links) → AreAsleep r.link r.link_wires d next (links_of (world_at r d))
  links_at r vp vn zero next up l from table = λ i t s at edge below. absurd (omega (arith, below))
  links_at r vp vn (suc u) next up l from table =
      side_after (link_course r) vn LATEST_TICK u next (link_is r vp vn up) (omega (arith, l)) from (world_good r vp vn (suc u) up (omega (arith, l))).link_count (λ i b. table.at i b ∙ ap (λ g. next_in (link_course r) i g (suc u)) (let z : suc u - 1 ≡ u = omega arith in z))

  parts_at : (r : System P N) (vp : P → Type 0) (vn : N → Type 0) (d : ℕ) (next : List (Option ℕ)) → IsSetUp r vp vn → d ≤ LATEST_TIME + 1 → r.start.at ≤ d → IsTable next (λ i. ready (part_course r) i d) (length r.start.world.parts) → AreAsleep r.part r.part_wires d next (parts_of (world_at r d))
  parts_at r vp vn d next up l from table =
      side_before (part_course r) vp LATEST_TICK d next (part_is r vp vn up) (omega (arith, l)) from (world_good r vp vn d up (omega (arith, l))).part_count (λ i b. table.at i b)

  -- wherever a run stands
  pub who_waits : (mp : Machine P) (mn : Machine N) (vp : P → Type 0) (vn : N → Type 0) (plan : PlanView P N) (start : Start P N) (run : Run P N) → IsRun mp mn vp vn plan start run → WhoWaitsIsAsleep (system_from mp mn plan start) run.at (state_of run.world) run.gear.next
  who_waits mp mn vp vn plan start run is =
      let r = system_from mp mn plan start in
      let up = is.gear_is.fitted.set_up in
      let within : run.at ≤ LATEST_TIME + 1 = (let u = is.of.until_within in omega (arith, is.within, u)) in
      let world = sym (world_is mp mn vp vn plan start run is) in
      record {
        parts = subst (λ (w : WorldState P N). AreAsleep r.part r.part_wires run.at (half_of 0 (length r.start.world.parts) run.gear.next) (parts_of w)) world
            (parts_at r vp vn run.at (half_of 0 (length r.start.world.parts) run.gear.next) up within is.at_is.begun is.at_is.parts_are);
        links = subst (λ (w : WorldState P N). AreAsleep r.link r.link_wires run.at (half_of (length r.start.world.parts) (length r.start.world.links) run.gear.next) (links_of w)) world
            (links_at r vp vn run.at (half_of (length r.start.world.parts) (length r.start.world.links) run.gear.next) up within is.at_is.begun is.at_is.links_are);
      }
