-- What a hub has written and counted since it was opened.
use Rattle.std.specs.Prelude.{◌≡◌, ℕ, ◌+◌, ◌≤◌, List, length, replicate, Option, is_some, Bool, true, false}
use Rattle.sim_io.specs.Sink.{Rose}
use Rattle.task_stats.specs.Tasks.{no_tasks, after_records}
use Rattle.trace_out.specs.Names.{actors_of}
use Rattle.tick_law.specs.PlanView.{PlanView}
use Rattle.tick_law.specs.SerialLoop.{System, records_below}
use Rattle.run_gear.specs.PlanNames.{names_of}
use Rattle.run_gear.specs.Written.{GotLines, GotSomeLines}
use Rattle.run_hub.specs.GoesOn.{TraceView}

-- its sink got all lines of what is recorded below d, or a part of them where a write failed, since it told `told` and had so many
-- faults; and the requests below d were counted
pub record IsWritten {P N : Type 0} (plan : PlanView P N) (r : System P N) (all : Bool) (told : Option (List ℕ)) (faults d : ℕ) (failed : Bool) (trace : TraceView) : Type 0 where
  pub names_are : trace.names ≡ names_of plan
  pub named : actors_of trace.names ≡ length r.start.world.parts + length r.start.world.links
  pub all_is : trace.all ≡ all
  pub whole : failed ≡ false → GotLines plan r all d told trace.told
  pub cut : failed ≡ true → GotSomeLines plan r all d told trace.told
  pub fault : failed ≡ true → Rose faults trace.faults
  pub never_falls : faults ≤ trace.faults
  pub telling : is_some trace.told ≡ is_some told
  pub counted : trace.stats ≡ after_records (replicate (length plan.parts) no_tasks) (records_below r d)
