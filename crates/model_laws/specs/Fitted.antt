-- What a gear and a run owe one another.
use Rattle.std.specs.Prelude.{◌≡◌, ℕ, ◌<◌, ◌≤◌, List, length, Option, true, false, ◌+◌, ◌^◌, slice_index_or}
use Rattle.sim_base.specs.declared.time.TheConstants.{LONGEST_PERIOD}
use Rattle.tick_law.specs.Wires.{Wires, owner_of, Wired}
use Rattle.tick_law.specs.Pass.{pass}
use Rattle.tick_law.specs.SerialLoop.{System, parts_of, links_of}
use Rattle.model_laws.specs.WellFormed.{IsWellFormed, HasRoom}
use Rattle.tick_law.specs.Laws.{Laws}
use Rattle.tick_law.specs.Course.{part_course, link_course, period}
use Rattle.tick_law.specs.Starts.{AreAsleep}

module _ {P N : Type 0} where
  -- all that is asked of a run
  pub record IsSetUp (r : System P N) (vp : P → Type 0) (vn : N → Type 0) : Type 0 where
    pub part_laws : Laws r.part vp true
    pub link_laws : Laws r.link vn false
    pub part_wired : Wired r.part_wires (length r.start.world.ports)
    pub link_wired : Wired r.link_wires (length r.start.world.ports)
    pub good : IsWellFormed r vp vn r.start.world
    pub part_owned : (q : ℕ) → q < length r.start.world.ports → owner_of r.part_wires q < length r.start.world.parts
    pub link_owned : (q : ℕ) → q < length r.start.world.ports → owner_of r.link_wires q < length r.start.world.links
    pub parts_asleep : AreAsleep r.part r.part_wires r.start.at r.start.part_next (parts_of r.start.world)
    pub links_asleep : AreAsleep r.link r.link_wires r.start.at r.start.link_next (links_of r.start.world)

-- whom a pass wakes, in a world of so many ports
pub record Wakes (w : Wires) (ports : ℕ) (periods : List ℕ) (next : List (Option ℕ)) : Type 0 where
  pub wired : Wired w ports
  pub owner : length w.owner ≡ ports
  pub owned : (q : ℕ) → q < ports → owner_of w q < length next
  pub all : length periods ≡ length next
  pub held : (i : ℕ) → i < length periods → (0 < slice_index_or periods i 0) × (slice_index_or periods i 0 ≤ LONGEST_PERIOD)

-- what a run's gear is
pub record Fitted {P N : Type 0} (r : System P N) (vp : P → Type 0) (vn : N → Type 0) (hand room : ℕ) (part_periods link_periods : List ℕ) : Type 0 where
  pub set_up : IsSetUp r vp vn
  pub parts_fit : HasRoom P r.part r.part_wires (parts_of r.start.world) hand room
  pub links_fit : HasRoom N r.link r.link_wires (links_of r.start.world) hand room
  pub few : length r.start.world.parts + length r.start.world.links < 2 ^ 32
  pub few_ports : length r.start.world.ports < 2 ^ 32
  pub part_owner : length r.part_wires.owner ≡ length r.start.world.ports
  pub link_owner : length r.link_wires.owner ≡ length r.start.world.ports
  pub part_count : length part_periods ≡ length r.start.world.parts
  pub link_count : length link_periods ≡ length r.start.world.links
  pub part_period : (i : ℕ) → i < length r.start.world.parts → (slice_index_or part_periods i 0 ≡ period (part_course r) i) × (0 < slice_index_or part_periods i 0) × (slice_index_or part_periods i 0 ≤ LONGEST_PERIOD)
  pub link_period : (i : ℕ) → i < length r.start.world.links → (slice_index_or link_periods i 0 ≡ period (link_course r) i) × (0 < slice_index_or link_periods i 0) × (slice_index_or link_periods i 0 ≤ LONGEST_PERIOD)
