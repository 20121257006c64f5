-- What each pass of a time asks for is there.
use Rattle.std.specs.Prelude.{◌≡◌, ℕ, ◌+◌, ◌*◌, ◌^◌, ◌<◌, ◌≤◌, List, length, Option, Bool, true, false, refl, slice_index_or}
use Rattle.std.proofs.Common.{sym, ◌∙◌, ap, subst, arith}
use Rattle.sim_base.specs.declared.time.TheConstants.{LATEST_TIME}
use Rattle.port_msg.specs.PortView.{PortView}
use Rattle.tick_law.specs.Machine.{Machine}
use Rattle.tick_law.specs.WorldPlaces.{WorldPlaces, SidePlaces, alls, IsFull}
use Rattle.tick_law.specs.Wires.{Wires, owner_of, Wired}
use Rattle.tick_law.specs.Pass.{Side}
use Rattle.tick_law.specs.SerialLoop.{System, world_at, parts_of, links_of, mid}
use Rattle.model_laws.specs.Pass.{side_of, side_places}
use Rattle.model_laws.specs.WellFormed.{HasRoom, IsSound}
use Rattle.model_laws.proofs.PortsPutBack.{alls_full, length-alls}
use Rattle.model_laws.specs.Outcome.{own_to}
use Rattle.model_laws.proofs.WorldsAreSound.{room_after}
use Rattle.model_laws.proofs.TwoPasses.{side_alls}
use Rattle.tick_law.specs.Face.{face_differs}
use Rattle.tick_law.specs.Course.{period, part_course, link_course}
use Rattle.model_laws.specs.Fitted.{IsSetUp, Wakes, Fitted}
use Rattle.model_laws.proofs.BothCourses.{world_good, mid_sound, port_count, mid_count}
use Rattle.model_laws.specs.Boundary.{IsBoundary, IsMid}

-- what a pass asks of the places, the tables and the room
pub record Asks {S : Type 0} (m : Machine S) (valid : S → Type 0) (w : Wires) (side_places : SidePlaces S) (next : List (Option ℕ)) (base hand room items : ℕ) (others : Wires) (periods : List ℕ) (woken : List (Option ℕ)) : Type 0 where
  pub full_ports : IsFull side_places.ports
  pub full_seats : IsFull side_places.actors
  pub fits : HasRoom S m w (side_of side_places.actors side_places.ports) hand room
  pub sound : IsSound m valid w (side_of side_places.actors side_places.ports)
  pub long : length next ≡ length (side_of side_places.actors side_places.ports).states
  pub few : base + length (side_of side_places.actors side_places.ports).states < 2 ^ 32
  pub enough : items + 64 * own_to w (length (side_of side_places.actors side_places.ports).states) ≤ room
  pub few_ports : length side_places.ports < 2 ^ 32
  pub wakes : Wakes others (length side_places.ports) periods woken

module _ {P N : Type 0} where
  pub primary_asks : (r : System P N) (vp : P → Type 0) (vn : N → Type 0) (hand room items t : ℕ) (pp lp : List ℕ) (world : WorldPlaces P N) (parts links : List (Option ℕ)) → Fitted r vp vn hand room pp lp → IsBoundary r t world parts links → t ≤ LATEST_TIME → items + 64 * (own_to r.part_wires (length r.start.world.parts) + own_to r.link_wires (length r.start.world.links)) ≤ room →
      Asks r.part vp r.part_wires (side_places world.parts world.ports) parts 0 hand room items r.link_wires lp links
  primary_asks r vp vn hand room items t pp lp world parts links f was l enough =
      let w = world_at r t in
      let good = world_good r vp vn t f.set_up (omega arith) in
      let pc = port_count r t in
      let seats_are : world.parts ≡ alls w.parts = ap (λ (x : WorldPlaces P N). x.parts) was.world_is in
      let ports_are : world.ports ≡ alls w.ports = ap (λ (x : WorldPlaces P N). x.ports) was.world_is in
      let h_is : side_of world.parts world.ports ≡ parts_of w = side_alls world.parts world.ports w.parts w.ports seats_are ports_are in
      let ports_long : length world.ports ≡ length r.start.world.ports = ap length ports_are ∙ length-alls w.ports ∙ pc in
      let count : length (side_of world.parts world.ports).states ≡ length r.start.world.parts = ap (λ (h : Side P). length h.states) h_is ∙ good.part_count in
      record {
        full_ports = subst (λ x. IsFull x) (sym ports_are) (alls_full w.ports);
        full_seats = subst (λ x. IsFull x) (sym seats_are) (alls_full w.parts);
        fits = subst (λ (h : Side P). HasRoom P r.part r.part_wires h hand room) (sym h_is) (room_after r.part vp r.part_wires (parts_of r.start.world) (parts_of w) hand room f.parts_fit good.part_count pc good.parts);
        sound = subst (λ (h : Side P). IsSound r.part vp r.part_wires h) (sym h_is) good.parts;
        long = was.parts_are.long ∙ sym count;
        few = (let a = f.few in omega (arith, a, count));
        enough = subst (λ n. items + 64 * own_to r.part_wires n ≤ room) (sym count) (omega arith);
        few_ports = subst (λ n. n < 2 ^ 32) (sym ports_long) f.few_ports;
        wakes = record {
          wired = subst (Wired r.link_wires) (sym ports_long) f.set_up.link_wired;
          owner = f.link_owner ∙ sym ports_long;
          owned = λ q b. subst (λ n. owner_of r.link_wires q < n) (sym was.links_are.long) (f.set_up.link_owned q (subst (λ n. q < n) ports_long b));
          all = f.link_count ∙ sym was.links_are.long;
          held = λ i b. let x = f.link_period i (subst (λ n. i < n) f.link_count b) in (x.1, x.2);
        };
      }

  pub secondary_asks : (r : System P N) (vp : P → Type 0) (vn : N → Type 0) (hand room items t : ℕ) (pp lp : List ℕ) (world : WorldPlaces P N) (parts links : List (Option ℕ)) → Fitted r vp vn hand room pp lp → IsMid r t world parts links → t ≤ LATEST_TIME → items + 64 * own_to r.link_wires (length r.start.world.links) ≤ room →
      Asks r.link vn r.link_wires (side_places world.links world.ports) links (length r.start.world.parts) hand room items r.part_wires pp parts
  secondary_asks r vp vn hand room items t pp lp world parts links f was l enough =
      let w = mid r t in
      let good = world_good r vp vn t f.set_up (omega arith) in
      let sound = mid_sound r vp vn t f.set_up (omega arith) in
      let pc = mid_count r t in
      let seats_are : world.links ≡ alls w.links = ap (λ (x : WorldPlaces P N). x.links) was.world_is in
      let ports_are : world.ports ≡ alls w.ports = ap (λ (x : WorldPlaces P N). x.ports) was.world_is in
      let h_is : side_of world.links world.ports ≡ links_of w = side_alls world.links world.ports w.links w.ports seats_are ports_are in
      let ports_long : length world.ports ≡ length r.start.world.ports = ap length ports_are ∙ length-alls w.ports ∙ pc in
      let count : length (side_of world.links world.ports).states ≡ length r.start.world.links = ap (λ (h : Side N). length h.states) h_is ∙ good.link_count in
      record {
        full_ports = subst (λ x. IsFull x) (sym ports_are) (alls_full w.ports);
        full_seats = subst (λ x. IsFull x) (sym seats_are) (alls_full w.links);
        fits = subst (λ (h : Side N). HasRoom N r.link r.link_wires h hand room) (sym h_is) (room_after r.link vn r.link_wires (links_of r.start.world) (links_of w) hand room f.links_fit good.link_count pc sound);
        sound = subst (λ (h : Side N). IsSound r.link vn r.link_wires h) (sym h_is) sound;
        long = was.links_are.long ∙ sym count;
        few = (let a = f.few in omega (arith, a, count));
        enough = subst (λ n. items + 64 * own_to r.link_wires n ≤ room) (sym count) enough;
        few_ports = subst (λ n. n < 2 ^ 32) (sym ports_long) f.few_ports;
        wakes = record {
          wired = subst (Wired r.part_wires) (sym ports_long) f.set_up.part_wired;
          owner = f.part_owner ∙ sym ports_long;
          owned = λ q b. subst (λ n. owner_of r.part_wires q < n) (sym was.parts_are.long) (f.set_up.part_owned q (subst (λ n. q < n) ports_long b));
          all = f.part_count ∙ sym was.parts_are.long;
          held = λ i b. let x = f.part_period i (subst (λ n. i < n) f.part_count b) in (x.1, x.2);
        };
      }
