-- Both passes of a time make the next boundary.
use Rattle.std.specs.Prelude.{◌≡◌, ℕ, ◌+◌, ◌*◌, ◌<◌, ◌≤◌, ◌||◌, List, ◌++◌, length, Option, Bool, true, false, refl, slice_index_or}
use Rattle.std.proofs.Common.{sym, ◌∙◌, ap, subst, arith, append_assoc}
use Rattle.sim_base.specs.declared.time.TheConstants.{LATEST_TICK, LATEST_TIME}
use Rattle.port_msg.specs.PortView.{PortView}
use Rattle.port_msg.specs.declared.records.Record.{Record}
use Rattle.tick_law.specs.Machine.{Machine}
use Rattle.tick_law.specs.WorldPlaces.{WorldPlaces, SidePlaces, somes}
use Rattle.tick_law.specs.Wires.{Wires, own_of, owner_of}
use Rattle.tick_law.specs.Pass.{Side, port_at, pass}
use Rattle.tick_law.specs.SerialLoop.{System, begun, world_at, parts_of, links_of, mid}
use Rattle.model_laws.specs.Pass.{side_of, side_places, whole_side}
use Rattle.model_laws.specs.Outcome.{own_to}
use Rattle.model_laws.proofs.PassGives.{records_fit}
use Rattle.tick_law.specs.Outcomes.{outcome, records, stirs, steps_of}
use Rattle.model_laws.proofs.TwoPasses.{side_alls}
use Rattle.model_laws.proofs.DueByDue.{items_of}
use Rattle.sim_base.specs.Edge.{edge_from}
use Rattle.tick_law.specs.NextTime.{woken}
use Rattle.tick_law.specs.Course.{any_of, awake, part_course, link_course, ready}
use Rattle.tick_law.specs.Face.{face_differs}
use Rattle.model_laws.specs.NextTable.{next_after, IsTable, chosen, next_at_place, counted}
use Rattle.model_laws.proofs.DuePassIsWhole.{count_is}
use Rattle.model_laws.specs.Fitted.{IsSetUp, Fitted}
use Rattle.model_laws.proofs.BothCourses.{part_is, link_is, port_count, mid_count}
use Rattle.tick_law.specs.Verdict.{part_next}
use Rattle.model_laws.specs.Boundary.{IsBoundary, IsMid}
use Rattle.model_laws.proofs.PassKeepsNext.{pass_kept, primary_kept, secondary_kept}
use Rattle.model_laws.proofs.PassAsks.{Asks, primary_asks, secondary_asks}
use Rattle.model_laws.specs.Stepping.{Stepping}

table_same : (xs : List (Option ℕ)) (f g : ℕ → Option ℕ) (n : ℕ) → ((j : ℕ) → j < n → f j ≡ g j) → IsTable xs f n → IsTable xs g n
table_same xs f g n same is = record { long = is.long; at = λ j b. is.at j b ∙ same j b }

pub records_both : (items items1 a b a' b' : List Record) → items1 ≡ items ++ a → a ≡ a' → b ≡ b' → items1 ++ b ≡ items ++ (a' ++ b')
records_both items items1 a b a' b' e f g = ap (λ l. l ++ b) e ∙ append_assoc items a b ∙ ap (λ l. items ++ (l ++ b)) f ∙ ap (λ l. items ++ (a' ++ l)) g

pub stirs_both : (a b a' b' : Bool) → a ≡ a' → b ≡ b' → (a || b) ≡ (a' || b')
stirs_both a b a' b' e f = rw (e, f) refl

pub steps_both : (s0 s1 s2 a b a' b' : ℕ) → s1 ≡ s0 + a → s2 ≡ s1 + b → a ≡ a' → b ≡ b' → s2 ≡ s0 + (a' + b')
steps_both s0 s1 s2 a b a' b' e f g h = omega (arith, e, f, g, h)

-- what a pass of the due gave is what the whole pass gives
pub record Gave {S : Type 0} (m : Machine S) (w : Wires) (stepped who awake : ℕ → Bool) (t : ℕ) (h k : Side S) (base : ℕ) : Type 0 where
  pub all_records : records m w stepped t h base ≡ records m w who t k base
  pub all_stirs : stirs m w stepped t h ≡ stirs m w who t k
  pub all_steps : steps_of m w stepped t h ≡ steps_of m w awake t k

gave_of : {S : Type 0} (m : Machine S) (w : Wires) (stepped who awake : ℕ → Bool) (t : ℕ) (h k : Side S) (base : ℕ) → h ≡ k → Gave m w stepped who awake t k k base → Gave m w stepped who awake t h k base
gave_of m w stepped who awake t h k base e g = subst (λ x. Gave m w stepped who awake t x k base) (sym e) g

asks_same : {S : Type 0} (m : Machine S) (valid : S → Type 0) (w : Wires) (sp : SidePlaces S) (next : List (Option ℕ)) (base base' hand hand' room room' items : ℕ) (others : Wires) (periods : List ℕ) (wn : List (Option ℕ)) → base' ≡ base → hand' ≡ hand → room' ≡ room → Asks m valid w sp next base hand room items others periods wn → Asks m valid w sp next base' hand' room' items others periods wn
asks_same m valid w sp next base base' hand hand' room room' items others periods wn e f g a =
    subst (λ x. Asks m valid w sp next x hand' room' items others periods wn) (sym e) (subst (λ x. Asks m valid w sp next base x room' items others periods wn) (sym f) (subst (λ x. Asks m valid w sp next base hand x items others periods wn) (sym g) a))

module _ {P N : Type 0} where
  pub primary_gave : (stepping : Stepping) (r : System P N) (vp : P → Type 0) (vn : N → Type 0) (t : ℕ) (world : WorldPlaces P N) (parts links : List (Option ℕ)) → IsSetUp r vp vn → t ≤ LATEST_TIME → IsBoundary r t world parts links →
      Gave r.part r.part_wires (chosen stepping parts t) (begun r.start.at t) (counted stepping (part_course r) t) t (side_of world.parts world.ports) (parts_of (world_at r t)) 0
  primary_gave stepping r vp vn t world parts links up l was =
      let c = part_course r in
      let end : ℕ = LATEST_TICK in
      let ci = part_is r vp vn up in
      let w = world_at r t in
      let count : length w.parts ≡ length r.start.world.parts = count_is c vp end t ci in
      let pc = port_count r t in
      let h_is : side_of world.parts world.ports ≡ parts_of w = side_alls world.parts world.ports w.parts w.ports (ap (λ (x : WorldPlaces P N). x.parts) was.world_is) (ap (λ (x : WorldPlaces P N). x.ports) was.world_is) in
      let owned = λ (q : ℕ) (b : q < length w.ports). (let o = up.part_owned q (omega (arith, b, pc)) in let z : owner_of r.part_wires q < length w.parts = omega (arith, o, count) in z) in
      let kept = pass_kept stepping c vp end t 0 parts ci (omega arith) was.begun owned (subst (λ n. IsTable parts (part_next r t) n) (sym count) was.parts_are) in
      gave_of r.part r.part_wires (chosen stepping parts t) (begun r.start.at t) (counted stepping (part_course r) t) t (side_of world.parts world.ports) (parts_of w) 0 h_is (record { all_records = kept.records; all_stirs = kept.stirs; all_steps = kept.steps })

  pub secondary_gave : (stepping : Stepping) (r : System P N) (vp : P → Type 0) (vn : N → Type 0) (t : ℕ) (world : WorldPlaces P N) (parts links : List (Option ℕ)) → IsSetUp r vp vn → t ≤ LATEST_TIME → IsMid r t world parts links →
      Gave r.link r.link_wires (chosen stepping links t) (begun r.start.at t) (counted stepping (link_course r) t) t (side_of world.links world.ports) (links_of (mid r t)) (length r.start.world.parts)
  secondary_gave stepping r vp vn t world parts links up l was =
      let k = link_course r in
      let end : ℕ = LATEST_TICK in
      let ki = link_is r vp vn up in
      let w = mid r t in
      let count : length w.links ≡ length r.start.world.links = count_is k vn end t ki in
      let pc = mid_count r t in
      let h_is : side_of world.links world.ports ≡ links_of w = side_alls world.links world.ports w.links w.ports (ap (λ (x : WorldPlaces P N). x.links) was.world_is) (ap (λ (x : WorldPlaces P N). x.ports) was.world_is) in
      let owned = λ (q : ℕ) (b : q < length w.ports). (let o = up.link_owned q (omega (arith, b, pc)) in let z : owner_of r.link_wires q < length w.links = omega (arith, o, count) in z) in
      let kept = pass_kept stepping k vn end t (length r.start.world.parts) links ki (omega arith) was.begun owned (subst (λ n. IsTable links (λ i. ready k i t) n) (sym count) was.links_are) in
      gave_of r.link r.link_wires (chosen stepping links t) (begun r.start.at t) (counted stepping (link_course r) t) t (side_of world.links world.ports) (links_of w) (length r.start.world.parts) h_is (record { all_records = kept.records; all_stirs = kept.stirs; all_steps = kept.steps })

  -- after the first half
  pub to_mid : (stepping : Stepping) (r : System P N) (vp : P → Type 0) (vn : N → Type 0) (hand room t : ℕ) (pp lp : List ℕ) (world : WorldPlaces P N) (parts links parts1 links1 : List (Option ℕ)) (actors1 : List (Option P)) (ports1 : List (Option PortView)) → Fitted r vp vn hand room pp lp → t ≤ LATEST_TIME → IsBoundary r t world parts links →
      (let h = side_of world.parts world.ports in
      side_places actors1 ports1 ≡ whole_side (pass r.part r.part_wires (chosen stepping parts t) t h)
      → IsTable parts1 (λ i. next_after r.part t (outcome r.part r.part_wires (chosen stepping parts t) t h i) (next_at_place parts i)) (length h.states)
      → IsTable links1 (λ j. woken (any_of (λ q. face_differs false (port_at (somes world.ports) q) (port_at (somes ports1) q)) (own_of r.link_wires j)) (edge_from (slice_index_or lp j 0) t) (next_at_place links j)) (length links)
      → IsMid r t (record { parts = actors1; links = world.links; ports = ports1 }) parts1 links1)
  to_mid stepping r vp vn hand room t pp lp world parts links parts1 links1 actors1 ports1 f l was a b w =
      primary_kept stepping r vp vn t world parts links parts1 links1 actors1 ports1 f.set_up l was a b
      (table_same links1 _ _ (length links) (λ j b. ap (λ x. woken (any_of (λ q. face_differs false (port_at (somes world.ports) q) (port_at (somes ports1) q)) (own_of r.link_wires j)) (edge_from x t) (next_at_place links j)) (f.link_period j (subst (λ n. j < n) was.links_are.long b)).0) w)

  -- and after the second
  pub to_next : (stepping : Stepping) (r : System P N) (vp : P → Type 0) (vn : N → Type 0) (hand room t : ℕ) (pp lp : List ℕ) (world : WorldPlaces P N) (parts links parts1 links1 : List (Option ℕ)) (actors1 : List (Option N)) (ports1 : List (Option PortView)) → Fitted r vp vn hand room pp lp → t ≤ LATEST_TIME → IsMid r t world parts links →
      (let h = side_of world.links world.ports in
      side_places actors1 ports1 ≡ whole_side (pass r.link r.link_wires (chosen stepping links t) t h)
      → IsTable links1 (λ i. next_after r.link t (outcome r.link r.link_wires (chosen stepping links t) t h i) (next_at_place links i)) (length h.states)
      → IsTable parts1 (λ j. woken (any_of (λ q. face_differs true (port_at (somes world.ports) q) (port_at (somes ports1) q)) (own_of r.part_wires j)) (edge_from (slice_index_or pp j 0) (t + 1)) (next_at_place parts j)) (length parts)
      → IsBoundary r (t + 1) (record { parts = world.parts; links = actors1; ports = ports1 }) parts1 links1)
  to_next stepping r vp vn hand room t pp lp world parts links parts1 links1 actors1 ports1 f l was a b w =
      secondary_kept stepping r vp vn t world parts links parts1 links1 actors1 ports1 f.set_up l was a b
      (table_same parts1 _ _ (length parts) (λ j b. ap (λ x. woken (any_of (λ q. face_differs true (port_at (somes world.ports) q) (port_at (somes ports1) q)) (own_of r.part_wires j)) (edge_from x (t + 1)) (next_at_place parts j)) (f.part_period j (subst (λ n. j < n) was.parts_are.long b)).0) w)

  -- the second half's asks
  pub then_asks : (stepping : Stepping) (r : System P N) (vp : P → Type 0) (vn : N → Type 0) (hand room t base hand1 room1 : ℕ) (pp lp : List ℕ) (world : WorldPlaces P N) (parts links parts1 links1 : List (Option ℕ)) (actors1 : List (Option P)) (ports1 : List (Option PortView)) (items items1 : List Record) → Fitted r vp vn hand room pp lp → t ≤ LATEST_TIME → IsBoundary r t world parts links →
      length items + 64 * (own_to r.part_wires (length r.start.world.parts) + own_to r.link_wires (length r.start.world.links)) ≤ room →
      base ≡ length r.start.world.parts → hand1 ≡ hand → room1 ≡ room →
      items1 ≡ items ++ records r.part r.part_wires (chosen stepping parts t) t (side_of world.parts world.ports) 0 →
      (let w1 : WorldPlaces P N = record { parts = actors1; links = world.links; ports = ports1 } in IsMid r t w1 parts1 links1) →
      Asks r.link vn r.link_wires (side_places world.links ports1) links1 base hand1 room1 (length items1) r.part_wires pp parts1
  then_asks stepping r vp vn hand room t base hand1 room1 pp lp world parts links parts1 links1 actors1 ports1 items items1 f l was enough e g h rec_is mid_is =
      let asks = primary_asks r vp vn hand room (length items) t pp lp world parts links f was l enough in
      let hh = side_of world.parts world.ports in
      let fit = records_fit r.part vp r.part_wires (chosen stepping parts t) t hh 0 (length hh.states) f.set_up.part_laws.lawful asks.fits.wired asks.sound in
      let long = items_of items1 items (records r.part r.part_wires (chosen stepping parts t) t hh 0) rec_is in
      let count : own_to r.part_wires (length hh.states) ≡ own_to r.part_wires (length r.start.world.parts) = ap (λ n. own_to r.part_wires n) (sym asks.long ∙ was.parts_are.long) in
      asks_same r.link vn r.link_wires (side_places world.links ports1) links1 (length r.start.world.parts) base hand hand1 room room1 (length items1) r.part_wires pp parts1 e g h
      (secondary_asks r vp vn hand room (length items1) t pp lp (let w1 : WorldPlaces P N = record { parts = actors1; links = world.links; ports = ports1 } in w1) parts1 links1 f mid_is l (omega (arith, fit, long, count, enough)))
