-- A run whose actors step in any order, wherever it has come.
use Rattle.std.specs.Prelude.{◌≡◌, ℕ, ◌+◌, ◌%◌, ◌≤◌, ◌||◌, ◌⊎◌, List, [], length, Option, Some, true, false}
use Rattle.sim_base.specs.declared.time.TheConstants.{LATEST_TIME}
use Rattle.tick_law.specs.SerialLoop.{System, world_at, whole_world, end_below}
use Rattle.tick_law.specs.Course.{part_course, link_course, period, ticked}
use Rattle.tick_law.specs.Verdict.{link_next}
use Rattle.model_laws.specs.NextTable.{next_at_place}
use Rattle.model_laws.specs.Boundary.{IsBoundary}
use Rattle.model_laws.specs.Fitted.{Fitted}
use Rattle.model_laws.specs.SideTimes.{half_of}
use Rattle.actor_turn.specs.Side.{AreInOrder, times_of}
use Rattle.away_rows.specs.Marks.{no_marks, IsQuiet}
use Rattle.port_rows.specs.Rows.{settled_rows}
use Rattle.away_rows.specs.Bodies.{Seated}
use Rattle.away_rows.specs.SidePass.{so_far, did_so_far, stirs_so_far, AreMarks, AllDueMarked}
use Rattle.hub_laws.specs.HubState.{HubState}
use Rattle.hub_laws.specs.declared.stage.Stage.TheVariants.{Primary, Secondary}
use Rattle.hub_floor.specs.declared.floor.Floor.{Floor}
use Rattle.hub_floor.specs.Passing.{Passing}

module _ {P N : Type 0} where
  -- its state in the machine of events
  abbrev pub hub_state : Floor P N → HubState
  hub_state f = record {
    stage = f.stage;
    at = f.at;
    part_marks = f.part_marks;
    link_marks = f.link_marks;
    part_next = times_of f.part_side f.next;
    link_next = times_of f.link_side f.next;
    asked = half_of 0 (length f.asked) f.asked;
    paused = f.paused;
    wants = f.wants;
    asks = f.asks;
    extra = f.extra;
    end = f.end;
    stirred = f.stirred;
    failed = f.failed;
    left = f.left;
  }

  -- asked edges are edges of their parts, from `least` on and up to the greatest time
  abbrev pub AreAsked : System P N → ℕ → ℕ → List (Option ℕ) → Type 0
  AreAsked r least until asked = (i n : ℕ) → next_at_place asked i ≡ Some n → (n % period (part_course r) i ≡ 0) × (least ≤ n) × (n ≤ until)

  -- what it keeps of its run, whatever its stage
  pub record IsOf (r : System P N) (vp : P → Type 0) (vn : N → Type 0) (until : ℕ) (f : Floor P N) : Type 0 where
    pub part_wires_are : f.part_side.wiring ≡ r.part_wires
    pub link_wires_are : f.link_side.wiring ≡ r.link_wires
    pub rows_are : f.rows.wires ≡ r.link_wires
    pub order : AreInOrder f.part_side f.link_side (length f.next)
    pub room : ℕ
    pub fitted : Fitted r vp vn room room f.part_side.periods.items f.link_side.periods.items
    pub asked_all : length f.asked ≡ length r.start.world.parts
    pub until_within : until ≤ LATEST_TIME

  -- at a boundary everybody is at home, and the world and all next times are the serial loop's
  pub record AtRest (r : System P N) (f : Floor P N) : Type 0 where
    pub boundary : IsBoundary r f.at (whole_world (world_at r f.at)) (times_of f.part_side f.next) (times_of f.link_side f.next)
    pub parts_home : Seated r.part_wires [] (world_at r f.at).parts (λ i. []) f.parts.items
    pub links_home : Seated r.link_wires [] (world_at r f.at).links (λ j. []) f.links.items
    pub rows_stand : f.rows ≡ settled_rows (world_at r f.at).ports r.link_wires
    pub parts_unmarked : f.part_marks ≡ no_marks (length r.start.world.parts)
    pub links_unmarked : f.link_marks ≡ no_marks (length r.start.world.links)
    pub calm : f.stirred ≡ false
    pub end_is : f.end ≡ end_below r f.at

  -- in the pass of the parts: the links are at home
  pub record InParts (r : System P N) (f : Floor P N) : Type 0 where
    pub begun : r.start.at ≤ f.at
    pub passing : Passing (part_course r) 0 f.at f.at false true f.part_side f.link_side (length r.start.world.parts) (length r.start.world.links) (link_next r f.at) f.part_marks f.parts.items f.rows f.next
    pub links_home : Seated r.link_wires [] (world_at r f.at).links (λ j. []) f.links.items
    pub links_unmarked : f.link_marks ≡ no_marks (length r.start.world.links)
    pub stirred_is : f.stirred ≡ stirs_so_far (part_course r) f.at f.part_marks.back
    pub end_is : f.end ≡ end_below r f.at

  -- in the pass of the links: the parts are at home, and have made their steps
  pub record InLinks (r : System P N) (f : Floor P N) : Type 0 where
    pub begun : r.start.at ≤ f.at
    pub passing : Passing (link_course r) (length r.start.world.parts) f.at (f.at + 1) true false f.link_side f.part_side (length r.start.world.links) (length r.start.world.parts) (λ i. ticked (part_course r) i (f.at + 1)) f.link_marks f.links.items f.rows f.next
    pub parts_home : Seated r.part_wires f.part_marks.out (so_far (part_course r) f.at f.part_marks.back).states (did_so_far (part_course r) 0 f.at f.part_marks.back) f.parts.items
    pub parts_marked : AreMarks (part_course r) f.at f.part_marks
    pub parts_due : AllDueMarked (part_course r) f.at f.part_marks
    pub parts_quiet : IsQuiet f.part_marks
    pub stirred_is : f.stirred ≡ (stirs_so_far (part_course r) f.at f.part_marks.back || stirs_so_far (link_course r) f.at f.link_marks.back)
    pub end_is : f.end ≡ end_below r f.at

  -- the same with what it keeps of its run
  pub record RestsOf (r : System P N) (vp : P → Type 0) (vn : N → Type 0) (until : ℕ) (f : Floor P N) : Type 0 where
    pub of : IsOf r vp vn until f
    pub rest : AtRest r f
    pub asked : AreAsked r f.at until (half_of 0 (length f.asked) f.asked)
    pub within : f.at ≤ until + 1

  pub record PartsOf (r : System P N) (vp : P → Type 0) (vn : N → Type 0) (until : ℕ) (f : Floor P N) : Type 0 where
    pub stage_is : f.stage ≡ Primary
    pub of : IsOf r vp vn until f
    pub parts : InParts r f
    pub asked : AreAsked r (f.at + 1) until (half_of 0 (length f.asked) f.asked)
    pub within : f.at ≤ until

  pub record LinksOf (r : System P N) (vp : P → Type 0) (vn : N → Type 0) (until : ℕ) (f : Floor P N) : Type 0 where
    pub stage_is : f.stage ≡ Secondary
    pub of : IsOf r vp vn until f
    pub links : InLinks r f
    pub asked : AreAsked r (f.at + 1) until (half_of 0 (length f.asked) f.asked)
    pub within : f.at ≤ until

  -- the pass of one side is open
  abbrev pub PassOf : System P N → (P → Type 0) → (N → Type 0) → ℕ → Floor P N → Type 0
  PassOf r vp vn until f = PartsOf r vp vn until f ⊎ LinksOf r vp vn until f
