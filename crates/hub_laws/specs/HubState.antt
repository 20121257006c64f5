-- A state of the machine of events, without the actors and ports, which stand as the serial loop says.
use Rattle.std.specs.Prelude.{ℕ, List, Option, Bool}
use Rattle.away_rows.specs.declared.marks.Marks.{Marks}
use Rattle.hub_laws.specs.declared.stage.Stage.{Stage}

pub record HubState : Type 0 where
  pub stage : Stage
  -- the boundary that it is at, or the time whose pass is open
  pub at : ℕ
  -- who has to step in the pass of the parts, and in that of the links
  pub part_marks : Marks
  pub link_marks : Marks
  -- the next time of each actor, or none
  pub part_next : List (Option ℕ)
  pub link_next : List (Option ℕ)
  -- the edge at which each part was asked to step, or none
  pub asked : List (Option ℕ)
  -- no pass opens while this holds, and while somebody wants to look
  pub paused : Bool
  pub wants : ℕ
  -- how many ticks were asked for, and how many steps were made for that alone
  pub asks : ℕ
  pub extra : ℕ
  -- the last time below `at` of progress, and whether there was progress at `at` itself
  pub end : ℕ
  pub stirred : Bool
  -- a write of the trace failed
  pub failed : Bool
  -- nobody lingers at the end
  pub left : Bool
