-- A run of the sleeping engine, wherever it has come.
use Rattle.std.specs.Prelude.{◌≡◌, ◌+◌, ◌≤◌, length}
use Rattle.sim_base.specs.declared.time.TheConstants.{LATEST_TIME}
use Rattle.tick_law.specs.Machine.{Machine}
use Rattle.tick_law.specs.PlanView.{PlanView, system_from}
use Rattle.tick_law.specs.SerialLoop.{Start, end_below}
use Rattle.phase_engine.specs.declared.run.Run.{Run}
use Rattle.trace_out.specs.Names.{actors_of}
use Rattle.run_gear.specs.PlanNames.{names_of}
use Rattle.phase_engine.specs.RunGear.{IsRunGear, IsAt}

-- what a run keeps of its plan, whatever the boundary
pub record IsOf {P N : Type 0} (plan : PlanView P N) (start : Start P N) (r : Run P N) : Type 0 where
  pub names_are : r.names ≡ names_of plan
  pub actors_named : actors_of r.names ≡ length start.world.parts + length start.world.links
  pub until_is : r.until ≡ plan.until
  pub until_within : plan.until ≤ LATEST_TIME

-- a run of a plan that begins at a start: its world and its next times are the serial loop's at its boundary
pub record IsRun {P N : Type 0} (mp : Machine P) (mn : Machine N) (vp : P → Type 0) (vn : N → Type 0) (plan : PlanView P N) (start : Start P N) (r : Run P N) : Type 0 where
  pub gear_is : IsRunGear mp mn vp vn plan start r.world r.gear
  pub at_is : IsAt mp mn plan start r.at r.world r.gear.next
  pub within : r.at ≤ plan.until + 1
  pub end_is : r.end ≡ end_below (system_from mp mn plan start) r.at
  pub of : IsOf plan start r
