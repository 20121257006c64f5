-- What an engine keeps: its world is the run's, and its tables have the run's next times.
use Rattle.std.specs.Prelude.{◌≡◌, ℕ, ◌+◌, ◌<◌, ◌≤◌, ◌||◌, List, ◌++◌, length, Option, Some, None, Bool, true, false, slice_get, refl}
use Rattle.std.proofs.Common.{zero, suc, sym, ◌∙◌, ap, subst, arith, add-one}
use Rattle.sim_base.specs.declared.time.TheConstants.{LATEST_TICK, LATEST_TIME}
use Rattle.port_msg.specs.PortView.{PortView}
use Rattle.tick_law.specs.Machine.{Machine}
use Rattle.port_msg.specs.RecView.{records_at}
use Rattle.tick_law.specs.WorldPlaces.{WorldPlaces, SidePlaces, alls, somes}
use Rattle.tick_law.specs.Wires.{Wires, own_of, owner_of}
use Rattle.tick_law.specs.Pass.{Side, port_at, pass, everyone}
use Rattle.tick_law.specs.SerialLoop.{System, begun, world_at, whole_world, parts_of, links_of, mid}
use Rattle.model_laws.specs.Pass.{side_of, side_places, whole_side}
use Rattle.model_laws.proofs.PortsPutBack.{somes-alls}
use Rattle.tick_law.specs.Outcomes.{outcome, outcome_by, whats_of, flag_of, charge_of, records_to, stirs_to, steps_to}
use Rattle.model_laws.proofs.DueByDue.{pass_same}
use Rattle.model_laws.proofs.TwoPasses.{world_places_is, side_alls}
use Rattle.sim_base.specs.Edge.{edge_from}
use Rattle.tick_law.specs.NextTime.{woken, due_is}
use Rattle.tick_law.specs.Course.{any_of, Course, after, period, part_course, link_course, ready, ticked}
use Rattle.tick_law.specs.Face.{face_differs}
use Rattle.model_laws.proofs.SideCourse.{IsCourse}
use Rattle.model_laws.proofs.StepsFromStart.{begun_all, after_all}
use Rattle.model_laws.specs.NextTable.{due_at_time, next_after, IsTable, chosen, next_at_place, counted}
use Rattle.model_laws.proofs.DuePassIsWhole.{due_whole, due_records, due_stirs, due_steps, next_is, next_chosen, count_is}
use Rattle.model_laws.specs.Fitted.{IsSetUp}
use Rattle.model_laws.proofs.BothCourses.{part_is, link_is, port_count, mid_count}
use Rattle.tick_law.specs.Verdict.{part_next, link_next}
use Rattle.model_laws.proofs.NobodyIsDue.{parts_face, links_face, link_woken, part_woken, period_at_start}
use Rattle.model_laws.specs.Stepping.{Stepping, Everyone, Due}
use Rattle.model_laws.specs.Boundary.{IsBoundary, IsMid}

module _ {S : Type 0} where
  made_who : (m : Machine S) (w : Wires) (a b : ℕ → Bool) (t i : ℕ) (ports : List PortView) (o : Option S) → a i ≡ b i → outcome_by m w a t ports i o ≡ outcome_by m w b t ports i o
  made_who m w a b t i ports None e = refl
  made_who m w a b t i ports (Some s) e = rw e refl

  records_who : (m : Machine S) (w : Wires) (a b : ℕ → Bool) (t : ℕ) (h : Side S) (base n : ℕ) → ((i : ℕ) → i < n → a i ≡ b i) → records_to m w a t h base n ≡ records_to m w b t h base n
  records_who m w a b t h base zero e = refl
  records_who m w a b t h base (suc n) e =
      ap (λ l. l ++ records_at t (base + n) (whats_of (outcome m w a t h n))) (records_who m w a b t h base n (λ i l. e i (omega arith)))
      ∙ ap (λ o. records_to m w b t h base n ++ records_at t (base + n) (whats_of o)) (made_who m w a b t n h.ports (slice_get h.states n) (e n (omega arith)))

  stirs_who : (m : Machine S) (w : Wires) (a b : ℕ → Bool) (t : ℕ) (h : Side S) (n : ℕ) → ((i : ℕ) → i < n → a i ≡ b i) → stirs_to m w a t h n ≡ stirs_to m w b t h n
  stirs_who m w a b t h zero e = refl
  stirs_who m w a b t h (suc n) e =
      ap (λ x. x || flag_of (outcome m w a t h n)) (stirs_who m w a b t h n (λ i l. e i (omega arith)))
      ∙ ap (λ o. stirs_to m w b t h n || flag_of o) (made_who m w a b t n h.ports (slice_get h.states n) (e n (omega arith)))

  steps_who : (m : Machine S) (w : Wires) (a b : ℕ → Bool) (t : ℕ) (h : Side S) (n : ℕ) → ((i : ℕ) → i < n → a i ≡ b i) → steps_to m w a t h n ≡ steps_to m w b t h n
  steps_who m w a b t h zero e = refl
  steps_who m w a b t h (suc n) e =
      ap (λ x. x + charge_of (outcome m w a t h n)) (steps_who m w a b t h n (λ i l. e i (omega arith)))
      ∙ ap (λ o. steps_to m w b t h n + charge_of o) (made_who m w a b t n h.ports (slice_get h.states n) (e n (omega arith)))

  -- a side's pass over those whose next time is now
  pub record PassKept (stepping : Stepping) (c : Course S) (t base n : ℕ) (next : List (Option ℕ)) : Type 0 where
    pub half : pass c.machine c.wires (chosen stepping next t) t (c.before t) ≡ after c t
    pub records : records_to c.machine c.wires (chosen stepping next t) t (c.before t) base n ≡ records_to c.machine c.wires (begun c.from t) t (c.before t) base n
    pub stirs : stirs_to c.machine c.wires (chosen stepping next t) t (c.before t) n ≡ stirs_to c.machine c.wires (begun c.from t) t (c.before t) n
    pub steps : steps_to c.machine c.wires (chosen stepping next t) t (c.before t) n ≡ steps_to c.machine c.wires (counted stepping c t) t (c.before t) n
    pub table : (new : List (Option ℕ)) → IsTable new (λ i. next_after c.machine t (outcome c.machine c.wires (chosen stepping next t) t (c.before t) i) (next_at_place next i)) n → IsTable new (λ i. ticked c i (t + 1)) n

  pub pass_kept : (stepping : Stepping) (c : Course S) (valid : S → Type 0) (end t base : ℕ) (next : List (Option ℕ)) → IsCourse c valid end → t < end → c.from ≤ t → ((q : ℕ) → q < length (c.before t).ports → owner_of c.wires q < length (c.before t).states) → IsTable next (λ i. ready c i t) (length (c.before t).states) → PassKept stepping c t base (length (c.before t).states) next
  pass_kept Everyone c valid end t base next is l from owned table = record {
    half = sym (after_all c t from);
    records = ap (λ who. records_to c.machine c.wires who t (c.before t) base (length (c.before t).states)) (sym (begun_all c.from t from));
    stirs = ap (λ who. stirs_to c.machine c.wires who t (c.before t) (length (c.before t).states)) (sym (begun_all c.from t from));
    steps = refl;
    table = λ new new_is. record {
      long = new_is.long;
      at = λ i b.
          new_is.at i b
          ∙ ap (λ o. next_after c.machine t (outcome c.machine c.wires everyone t (c.before t) i) o) (table.at i b)
          ∙ next_chosen c valid end t i everyone is l from (let e = count_is c valid end t is in omega (arith, b, e)) refl;
    };
  }
  pass_kept Due c valid end t base next is l from owned table =
      let n = length (c.before t).states in
      let m = c.machine in
      let w = c.wires in
      let h = c.before t in
      let same = λ (i : ℕ) (b : i < n). (let z : chosen Due next t i ≡ due_at_time c t i = ap (λ o. due_is o t) (table.at i b) in z) in
      record {
        half = pass_same m w (chosen Due next t) (due_at_time c t) t h same owned ∙ due_whole c valid end t is (omega arith) from;
        records = records_who m w (chosen Due next t) (due_at_time c t) t h base n same ∙ due_records c valid end t base n is (omega arith) from;
        stirs = stirs_who m w (chosen Due next t) (due_at_time c t) t h n same ∙ due_stirs c valid end t n is (omega arith) from;
        steps = steps_who m w (chosen Due next t) (due_at_time c t) t h n same ∙ due_steps c valid end t n is (omega arith) from;
        table = λ new new_is. record {
          long = new_is.long;
          at = λ i b.
              new_is.at i b
              ∙ ap (λ o. next_after m t (outcome m w (chosen Due next t) t h i) o) (table.at i b)
              ∙ ap (λ o. next_after m t o (ready c i t)) (made_who m w (chosen Due next t) (due_at_time c t) t i h.ports (slice_get h.states i) (same i b))
              ∙ next_is c valid end t i is l from (let e = count_is c valid end t is in omega (arith, b, e));
        };
      }

module _ {P N : Type 0} where
  -- the primary pass and its wakes
  pub primary_kept : (stepping : Stepping) (r : System P N) (vp : P → Type 0) (vn : N → Type 0) (t : ℕ) (world : WorldPlaces P N) (parts links parts1 links1 : List (Option ℕ)) (actors1 : List (Option P)) (ports1 : List (Option PortView)) → IsSetUp r vp vn → t ≤ LATEST_TIME → IsBoundary r t world parts links →
      (let h = side_of world.parts world.ports in
      side_places actors1 ports1 ≡ whole_side (pass r.part r.part_wires (chosen stepping parts t) t h)
      → IsTable parts1 (λ i. next_after r.part t (outcome r.part r.part_wires (chosen stepping parts t) t h i) (next_at_place parts i)) (length h.states)
      → IsTable links1 (λ j. woken (any_of (λ q. face_differs false (port_at (somes world.ports) q) (port_at (somes ports1) q)) (own_of r.link_wires j)) (edge_from (period (link_course r) j) t) (next_at_place links j)) (length links)
      → IsMid r t (record { parts = actors1; links = world.links; ports = ports1 }) parts1 links1)
  primary_kept stepping r vp vn t world parts links parts1 links1 actors1 ports1 up l was pass_is table wakes =
      let c = part_course r in
      let k = link_course r in
      let end : ℕ = LATEST_TICK in
      let ci = part_is r vp vn up in
      let ki = link_is r vp vn up in
      let w = world_at r t in
      let count : length w.parts ≡ length r.start.world.parts = count_is c vp end t ci in
      let pc = port_count r t in
      let h_is : side_of world.parts world.ports ≡ parts_of w = side_alls world.parts world.ports w.parts w.ports (ap (λ (x : WorldPlaces P N). x.parts) was.world_is) (ap (λ (x : WorldPlaces P N). x.ports) was.world_is) in
      let owned = λ (q : ℕ) (b : q < length w.ports). (let o = up.part_owned q (omega (arith, b, pc)) in let z : owner_of r.part_wires q < length w.parts = omega (arith, o, count) in z) in
      let kept = pass_kept stepping c vp end t 0 parts ci (omega arith) was.begun owned (subst (λ n. IsTable parts (part_next r t) n) (sym count) was.parts_are) in
      let side_places_is : side_places actors1 ports1 ≡ whole_side (after c t) = pass_is ∙ ap (λ (h : Side P). whole_side (pass r.part r.part_wires (chosen stepping parts t) t h)) h_is ∙ ap (λ (h : Side P). whole_side h) kept.half in
      let seats_are : actors1 ≡ alls (mid r t).parts = ap (λ (x : SidePlaces P). x.actors) side_places_is in
      let ports_are : ports1 ≡ alls (mid r t).ports = ap (λ (x : SidePlaces P). x.ports) side_places_is in
      let before_ports : somes world.ports ≡ w.ports = ap (λ (x : WorldPlaces P N). somes x.ports) was.world_is ∙ somes-alls w.ports in
      let after_ports : somes ports1 ≡ (mid r t).ports = ap (λ x. somes x) ports_are ∙ somes-alls (mid r t).ports in
      record {
        begun = was.begun;
        world_is = world_places_is _ _ _ _ _ _ seats_are (ap (λ (x : WorldPlaces P N). x.links) was.world_is) ports_are;
        parts_are = subst (λ n. IsTable parts1 (λ i. ticked c i (t + 1)) n) count (kept.table parts1 (subst (λ (h : Side P). IsTable parts1 (λ i. next_after r.part t (outcome r.part r.part_wires (chosen stepping parts t) t h i) (next_at_place parts i)) (length h.states)) h_is table));
        links_are = record {
          long = wakes.long ∙ was.links_are.long;
          at = λ j b.
              wakes.at j (let e = was.links_are.long in omega (arith, b, e))
              ∙ ap (λ x. woken (any_of (λ q. face_differs false (port_at x q) (port_at (somes ports1) q)) (own_of r.link_wires j)) (edge_from (period k j) t) (next_at_place links j)) before_ports
              ∙ ap (λ x. woken (any_of (λ q. face_differs false (port_at w.ports q) (port_at x q)) (own_of r.link_wires j)) (edge_from (period k j) t) (next_at_place links j)) after_ports
              ∙ ap (λ o. woken (parts_face r t j) (edge_from (period k j) t) o) (was.links_are.at j b)
              ∙ sym (link_woken r t j (period_at_start k vn end j ki b));
        };
      }

  -- the secondary pass and its wakes
  pub secondary_kept : (stepping : Stepping) (r : System P N) (vp : P → Type 0) (vn : N → Type 0) (t : ℕ) (world : WorldPlaces P N) (parts links parts1 links1 : List (Option ℕ)) (actors1 : List (Option N)) (ports1 : List (Option PortView)) → IsSetUp r vp vn → t ≤ LATEST_TIME → IsMid r t world parts links →
      (let h = side_of world.links world.ports in
      side_places actors1 ports1 ≡ whole_side (pass r.link r.link_wires (chosen stepping links t) t h)
      → IsTable links1 (λ i. next_after r.link t (outcome r.link r.link_wires (chosen stepping links t) t h i) (next_at_place links i)) (length h.states)
      → IsTable parts1 (λ j. woken (any_of (λ q. face_differs true (port_at (somes world.ports) q) (port_at (somes ports1) q)) (own_of r.part_wires j)) (edge_from (period (part_course r) j) (t + 1)) (next_at_place parts j)) (length parts)
      → IsBoundary r (t + 1) (record { parts = world.parts; links = actors1; ports = ports1 }) parts1 links1)
  secondary_kept stepping r vp vn t world parts links parts1 links1 actors1 ports1 up l was pass_is table wakes =
      let c = part_course r in
      let k = link_course r in
      let end : ℕ = LATEST_TICK in
      let ci = part_is r vp vn up in
      let ki = link_is r vp vn up in
      let w = mid r t in
      let count : length w.links ≡ length r.start.world.links = count_is k vn end t ki in
      let pc = mid_count r t in
      let h_is : side_of world.links world.ports ≡ links_of w = side_alls world.links world.ports w.links w.ports (ap (λ (x : WorldPlaces P N). x.links) was.world_is) (ap (λ (x : WorldPlaces P N). x.ports) was.world_is) in
      let owned = λ (q : ℕ) (b : q < length w.ports). (let o = up.link_owned q (omega (arith, b, pc)) in let z : owner_of r.link_wires q < length w.links = omega (arith, o, count) in z) in
      let kept = pass_kept stepping k vn end t (length r.start.world.parts) links ki (omega arith) was.begun owned (subst (λ n. IsTable links (λ i. ready k i t) n) (sym count) was.links_are) in
      let side_places_is : side_places actors1 ports1 ≡ whole_side (after k t) = pass_is ∙ ap (λ (h : Side N). whole_side (pass r.link r.link_wires (chosen stepping links t) t h)) h_is ∙ ap (λ (h : Side N). whole_side h) kept.half in
      let seats_are : actors1 ≡ alls (world_at r (suc t)).links = ap (λ (x : SidePlaces N). x.actors) side_places_is in
      let ports_are : ports1 ≡ alls (world_at r (suc t)).ports = ap (λ (x : SidePlaces N). x.ports) side_places_is in
      let before_ports : somes world.ports ≡ w.ports = ap (λ (x : WorldPlaces P N). somes x.ports) was.world_is ∙ somes-alls w.ports in
      let after_ports : somes ports1 ≡ (world_at r (suc t)).ports = ap (λ x. somes x) ports_are ∙ somes-alls (world_at r (suc t)).ports in
      record {
        begun = (let b = was.begun in omega arith);
        world_is = world_places_is _ _ _ _ _ _ (ap (λ (x : WorldPlaces P N). x.parts) was.world_is) seats_are ports_are ∙ ap (λ d. whole_world (world_at r d)) (sym (add-one t));
        links_are = subst (λ n. IsTable links1 (λ i. ticked k i (t + 1)) n) count (kept.table links1 (subst (λ (h : Side N). IsTable links1 (λ i. next_after r.link t (outcome r.link r.link_wires (chosen stepping links t) t h i) (next_at_place links i)) (length h.states)) h_is table));
        parts_are = record {
          long = wakes.long ∙ was.parts_are.long;
          at = λ j b.
              wakes.at j (let e = was.parts_are.long in omega (arith, b, e))
              ∙ ap (λ x. woken (any_of (λ q. face_differs true (port_at x q) (port_at (somes ports1) q)) (own_of r.part_wires j)) (edge_from (period c j) (t + 1)) (next_at_place parts j)) before_ports
              ∙ ap (λ x. woken (any_of (λ q. face_differs true (port_at w.ports q) (port_at x q)) (own_of r.part_wires j)) (edge_from (period c j) (t + 1)) (next_at_place parts j)) after_ports
              ∙ ap (λ o. woken (links_face r t j) (edge_from (period c j) (t + 1)) o) (was.parts_are.at j b)
              ∙ sym (part_woken r t j (period_at_start c vp end j ci b));
        };
      }
