-- What a tick that is asked for changes, and what is told of it.
use Rattle.std.specs.Prelude.{ℕ, ◌+◌, ◌&&◌, nat_le, not, Option, Some, None, Bool, true, false}
use Rattle.sim_base.specs.declared.time.Time.{Time}
use Rattle.tick_law.specs.SerialLoop.{System}
use Rattle.tick_law.specs.Course.{part_course, period}
use Rattle.hub_laws.specs.HubState.{HubState}
use Rattle.hub_laws.specs.declared.stage.Stage.{Stage}
use Rattle.hub_laws.specs.declared.stage.Stage.TheVariants.{Boundary, Primary, Secondary, Over}
use Rattle.hub_laws.specs.Events.{is_over, asked_edge, tick_asked}

-- no edge that is asked for lies before this time: the boundary, or behind the time whose pass is open
abbrev pub first_asked : Stage → ℕ → ℕ
first_asked Boundary at = at
first_asked Primary at = at + 1
first_asked Secondary at = at + 1
first_asked Over at = at

-- an asked edge is noted where the run is not over and the edge is not above the greatest time
abbrev pub is_noted_at : Stage → ℕ → ℕ → Bool
is_noted_at stage until edge = not (is_over stage) && nat_le edge until

-- an edge is told where it is noted
abbrev pub told_where : Bool → ℕ → Option Time
told_where true edge = Some (record { 0 = edge })
told_where false edge = None

module _ {P N : Type 0} where
  -- AskTick of part i
  abbrev pub part_asked : System P N → ℕ → HubState → ℕ → HubState
  part_asked r until s i = tick_asked until s (period (part_course r) i) i

  -- the edge at which part i steps that is asked now, or none
  abbrev pub edge_told : System P N → ℕ → HubState → ℕ → Option Time
  edge_told r until s i =
      told_where (is_noted_at s.stage until (asked_edge s.stage (period (part_course r) i) s.at)) (asked_edge s.stage (period (part_course r) i) s.at)
