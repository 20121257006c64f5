-- One time of the sleeping engine, and times at which nobody is due.
use Rattle.std.specs.Prelude.{◌≡◌, ℕ, ◌+◌, ◌%◌, ◌<◌, ◌≤◌, [], ◌++◌, length, Option, Some, Bool, true, false, refl}
use Rattle.std.proofs.Common.{zero, suc, sym, ◌∙◌, ap, subst, arith, add-one}
use Rattle.sim_base.specs.declared.time.TheConstants.{LATEST_TICK, LATEST_TIME}
use Rattle.tick_law.specs.Machine.{Machine}
use Rattle.port_msg.specs.RecView.{records_at}
use Rattle.tick_law.specs.Wires.{Wires, own_of, owner_of}
use Rattle.tick_law.specs.Pass.{Side, port_at}
use Rattle.tick_law.specs.SerialLoop.{WorldState, System, begun, world_at, parts_of, links_of, mid, records_at_time, stirs_at}
use Rattle.tick_law.specs.Outcomes.{outcome, whats_of, flag_of, charge_of, records, stirs, steps_of, records_to, stirs_to, steps_to}
use Rattle.sim_base.specs.Edge.{edge_from}
use Rattle.tick_law.specs.NextTime.{woken, next_at, due_is}
use Rattle.model_laws.proofs.DueByDue.{outcome_none}
use Rattle.tick_law.specs.Course.{any_of, Course, after, flag, faced, timer, period, awake, part_course, link_course, ready, ticked}
use Rattle.tick_law.specs.Face.{face_differs}
use Rattle.model_laws.proofs.SideCourse.{IsCourse}
use Rattle.model_laws.proofs.AwakeOrQuiet.{at_of}
use Rattle.model_laws.proofs.NextTimesGoOn.{ready_next, ticked_sleeps, edge_at}
use Rattle.model_laws.specs.NextTable.{due_at_time}
use Rattle.model_laws.proofs.DuePassIsWhole.{due_records, due_stirs, due_steps, count_is}
use Rattle.model_laws.specs.Fitted.{IsSetUp}
use Rattle.model_laws.proofs.BothCourses.{part_is, link_is, port_count, mid_count}
use Rattle.tick_law.specs.Verdict.{awake_now, part_next, link_next}
use Rattle.model_laws.proofs.RestingGaps.{rests_whole, gap_rests, woken_no}
use Rattle.model_laws.proofs.SideReturned.{side_parts, side_links}

module _ {S : Type 0} where
  pub nobody_records : (m : Machine S) (w : Wires) (stepped : ℕ → Bool) (t : ℕ) (h : Side S) (base n : ℕ) → ((i : ℕ) → i < n → stepped i ≡ false) → records_to m w stepped t h base n ≡ []
  nobody_records m w stepped t h base zero no_one = refl
  nobody_records m w stepped t h base (suc n) no_one =
      let a : records_to m w stepped t h base n ≡ [] = nobody_records m w stepped t h base n (λ i b. no_one i (omega arith)) in
      let b : records_at t (base + n) (whats_of (outcome m w stepped t h n)) ≡ [] = ap (λ o. records_at t (base + n) (whats_of o)) (outcome_none m w stepped t n h (no_one n (omega arith))) in
      ap (λ l. l ++ records_at t (base + n) (whats_of (outcome m w stepped t h n))) a ∙ b

  pub nobody_stirs : (m : Machine S) (w : Wires) (stepped : ℕ → Bool) (t : ℕ) (h : Side S) (n : ℕ) → ((i : ℕ) → i < n → stepped i ≡ false) → stirs_to m w stepped t h n ≡ false
  nobody_stirs m w stepped t h zero no_one = refl
  nobody_stirs m w stepped t h (suc n) no_one =
      let a : stirs_to m w stepped t h n ≡ false = nobody_stirs m w stepped t h n (λ i b. no_one i (omega arith)) in
      let b : flag_of (outcome m w stepped t h n) ≡ false = ap (λ o. flag_of o) (outcome_none m w stepped t n h (no_one n (omega arith))) in
      rw a b

  pub nobody_steps : (m : Machine S) (w : Wires) (stepped : ℕ → Bool) (t : ℕ) (h : Side S) (n : ℕ) → ((i : ℕ) → i < n → stepped i ≡ false) → steps_to m w stepped t h n ≡ 0
  nobody_steps m w stepped t h zero no_one = refl
  nobody_steps m w stepped t h (suc n) no_one =
      let a : steps_to m w stepped t h n ≡ 0 = nobody_steps m w stepped t h n (λ i b. no_one i (omega arith)) in
      let b : charge_of (outcome m w stepped t h n) ≡ 0 = ap (λ o. charge_of o) (outcome_none m w stepped t n h (no_one n (omega arith))) in
      omega (arith, a, b)

  pub period_at_start : (c : Course S) (valid : S → Type 0) (end i : ℕ) → IsCourse c valid end → i < length (c.before 0).states → 0 < period c i
  period_at_start c valid end i is b = let r = at_of c valid end i 0 is b (omega arith) in subst (λ x. 0 < x) r.1.same r.1.all

first_next : {S : Type 0} (c : Course S) (i : ℕ) → ticked c i 0 ≡ Some 0
first_next c i = ap (next_at (period c i) (flag c i) (faced c i) (timer c i) 0) (edge_at 0 (period c i) (let z : 0 % period c i ≡ 0 = omega arith in z))

woken_same : (b : Bool) (t : ℕ) (o : Option ℕ) → o ≡ Some t → woken b t o ≡ o
woken_same true t o e = sym e
woken_same false t o e = refl

module _ {P N : Type 0} where
  -- the parts changed the face of a port of link i at t
  abbrev pub parts_face : System P N → ℕ → ℕ → Bool
  parts_face r t i = any_of (λ q. face_differs false (port_at (world_at r t).ports q) (port_at (mid r t).ports q)) (own_of r.link_wires i)

  -- the links changed the face of a port of part i at t
  abbrev pub links_face : System P N → ℕ → ℕ → Bool
  links_face r t i = any_of (λ q. face_differs true (port_at (mid r t).ports q) (port_at (world_at r (suc t)).ports q)) (own_of r.part_wires i)

  -- the primary pass wakes links
  pub link_woken : (r : System P N) (t i : ℕ) → 0 < period (link_course r) i → ready (link_course r) i t ≡ woken (parts_face r t i) (edge_from (period (link_course r) i) t) (ticked (link_course r) i t)
  link_woken r zero i pos =
      let c = link_course r in
      let z : edge_from (period c i) 0 ≡ 0 = edge_at 0 (period c i) (let z : 0 % period c i ≡ 0 = omega arith in z) in
      sym (ap (λ x. woken (parts_face r 0 i) x (ticked c i 0)) z ∙ woken_same (parts_face r 0 i) 0 (ticked c i 0) (first_next c i))
  link_woken r (suc u) i pos =
      let c = link_course r in
      ap (λ x. ready c i x) (sym (add-one u)) ∙ ready_next c i u pos ∙ ap (λ x. woken (faced c i u) (edge_from (period c i) x) (ticked c i x)) (add-one u)

  -- the secondary pass wakes parts
  pub part_woken : (r : System P N) (t i : ℕ) → 0 < period (part_course r) i → ready (part_course r) i (t + 1) ≡ woken (links_face r t i) (edge_from (period (part_course r) i) (t + 1)) (ticked (part_course r) i (t + 1))
  part_woken r t i pos = ready_next (part_course r) i t pos

  -- nobody is due at t
  pub record Rest (r : System P N) (t : ℕ) : Type 0 where
    pub parts : (i : ℕ) → i < length r.start.world.parts → due_is (part_next r t i) t ≡ false
    pub links : (i : ℕ) → i < length r.start.world.links → due_is (link_next r t i) t ≡ false

  -- then nothing happens at t
  pub record Nothing (r : System P N) (t : ℕ) : Type 0 where
    pub world : world_at r (suc t) ≡ world_at r t
    pub parts : (i : ℕ) → i < length r.start.world.parts → part_next r (t + 1) i ≡ part_next r t i
    pub links : (i : ℕ) → i < length r.start.world.links → link_next r (t + 1) i ≡ link_next r t i
    pub records : records_at_time r t ≡ []
    pub stirs : stirs_at r t ≡ false
    pub awake : awake_now r t ≡ 0

  -- where no port changed in the primary pass, no link is woken
  quiet_link : (r : System P N) (vn : N → Type 0) (end t i : ℕ) → IsCourse (link_course r) vn end → i < length r.start.world.links → (mid r t).ports ≡ (world_at r t).ports → ready (link_course r) i t ≡ ticked (link_course r) i t
  quiet_link r vn end zero i is b e = refl
  quiet_link r vn end (suc u) i is b e = link_woken r (suc u) i (period_at_start (link_course r) vn end i is b) ∙ woken_no (parts_face r (suc u) i) _ _ (gap_rests (link_course r) u i e)

  pub nothing_happens : (r : System P N) (vp : P → Type 0) (vn : N → Type 0) (t : ℕ) → IsSetUp r vp vn → t ≤ LATEST_TIME → r.start.at ≤ t → Rest r t → Nothing r t
  nothing_happens r vp vn t up l from rest =
      let c = part_course r in
      let k = link_course r in
      let ci = part_is r vp vn up in
      let ki = link_is r vp vn up in
      let end : ℕ = LATEST_TICK in
      let cc_ : length (world_at r t).parts ≡ length r.start.world.parts = count_is c vp end t ci in
      let kc : length (mid r t).links ≡ length r.start.world.links = count_is k vn end t ki in
      let pc = port_count r t in
      let mc = mid_count r t in
      let part_rest = λ (i : ℕ) (b : i < length (world_at r t).parts). rest.parts i (omega (arith, b, cc_)) in
      let part_owned = λ (q : ℕ) (b : q < length (world_at r t).ports). (let o = up.part_owned q (omega (arith, b, pc)) in let z : owner_of r.part_wires q < length (world_at r t).parts = omega (arith, o, cc_) in z) in
      let part_same : after c t ≡ parts_of (world_at r t) = rests_whole c vp end t ci (omega arith) from part_owned part_rest in
      let mid_same : mid r t ≡ world_at r t = side_parts (world_at r t) (after c t) part_same in
      let mid_ports : (mid r t).ports ≡ (world_at r t).ports = ap (λ (w : WorldState P N). w.ports) mid_same in
      let link_ready = λ (i : ℕ) (b : i < length r.start.world.links). quiet_link r vn end t i ki b mid_ports in
      let link_rest = λ (i : ℕ) (b : i < length (mid r t).links). (let b2 : i < length r.start.world.links = omega (arith, b, kc) in let z : due_is (ready k i t) t ≡ false = ap (λ o. due_is o t) (link_ready i b2) ∙ rest.links i b2 in z) in
      let link_owned = λ (q : ℕ) (b : q < length (mid r t).ports). (let o = up.link_owned q (omega (arith, b, mc)) in let z : owner_of r.link_wires q < length (mid r t).links = omega (arith, o, kc) in z) in
      let link_same : after k t ≡ links_of (mid r t) = rests_whole k vn end t ki (omega arith) from link_owned link_rest in
      let next_same : world_at r (suc t) ≡ mid r t = side_links (mid r t) (after k t) link_same in
      let next_ports : (world_at r (suc t)).ports ≡ (mid r t).ports = ap (λ (w : WorldState P N). w.ports) next_same in
      record {
        world = next_same ∙ mid_same;
        parts = λ i b.
            let pos = period_at_start c vp end i ci b in
            part_woken r t i pos ∙ woken_no (links_face r t i) (edge_from (period c i) (t + 1)) (ticked c i (t + 1)) (gap_rests c t i next_ports) ∙ ticked_sleeps c vp end i t ci b (omega arith) from pos (rest.parts i b);
        links = λ i b.
            let pos = period_at_start k vn end i ki b in
            ticked_sleeps k vn end i t ki b (omega arith) from pos (ap (λ o. due_is o t) (link_ready i b) ∙ rest.links i b) ∙ link_ready i b;
        records =
            (let a : records r.part r.part_wires (begun r.start.at t) t (parts_of (world_at r t)) 0 ≡ [] = sym (due_records c vp end t 0 (length (world_at r t).parts) ci (omega arith) from) ∙ nobody_records r.part r.part_wires (due_at_time c t) t (parts_of (world_at r t)) 0 (length (world_at r t).parts) part_rest in
            let b : records r.link r.link_wires (begun r.start.at t) t (links_of (mid r t)) (length r.start.world.parts) ≡ [] = sym (due_records k vn end t (length r.start.world.parts) (length (mid r t).links) ki (omega arith) from) ∙ nobody_records r.link r.link_wires (due_at_time k t) t (links_of (mid r t)) (length r.start.world.parts) (length (mid r t).links) link_rest in
            ap (λ l. l ++ records r.link r.link_wires (begun r.start.at t) t (links_of (mid r t)) (length r.start.world.parts)) a ∙ b);
        stirs =
            (let a : stirs r.part r.part_wires (begun r.start.at t) t (parts_of (world_at r t)) ≡ false = sym (due_stirs c vp end t (length (world_at r t).parts) ci (omega arith) from) ∙ nobody_stirs r.part r.part_wires (due_at_time c t) t (parts_of (world_at r t)) (length (world_at r t).parts) part_rest in
            let b : stirs r.link r.link_wires (begun r.start.at t) t (links_of (mid r t)) ≡ false = sym (due_stirs k vn end t (length (mid r t).links) ki (omega arith) from) ∙ nobody_stirs r.link r.link_wires (due_at_time k t) t (links_of (mid r t)) (length (mid r t).links) link_rest in
            rw a b);
        awake =
            (let a : steps_of r.part r.part_wires (λ i. awake c i t) t (parts_of (world_at r t)) ≡ 0 = sym (due_steps c vp end t (length (world_at r t).parts) ci (omega arith) from) ∙ nobody_steps r.part r.part_wires (due_at_time c t) t (parts_of (world_at r t)) (length (world_at r t).parts) part_rest in
            let b : steps_of r.link r.link_wires (λ i. awake k i t) t (links_of (mid r t)) ≡ 0 = sym (due_steps k vn end t (length (mid r t).links) ki (omega arith) from) ∙ nobody_steps r.link r.link_wires (due_at_time k t) t (links_of (mid r t)) (length (mid r t).links) link_rest in
            omega (arith, a, b));
      }
