-- What was written stays true of a run that went on without a record.
use Rattle.std.proofs.Common.{ℕ, List, sym, ◌∙◌, ap, subst, length}
use Rattle.std.specs.Prelude.{Option, Bool, replicate}
use Rattle.sim_io.specs.Sink.{Got}
use Rattle.task_stats.specs.Tasks.{no_tasks, after_records}
use Rattle.trace_out.specs.Lines.{lines_of}
use Rattle.tick_law.specs.PlanView.{PlanView}
use Rattle.tick_law.specs.SerialLoop.{System}
use Rattle.run_gear.specs.PlanNames.{names_of}
use Rattle.run_gear.specs.Written.{GotSomeLines}
use Rattle.hub_floor.specs.declared.floor.Floor.{Floor}
use Rattle.run_hub.specs.GoesOn.{TraceView}
use Rattle.run_hub.specs.Written.{IsWritten}
use Rattle.run_hub.specs.Stands.{WentOn}

module _ {P N : Type 0} where
  pub written_on : (plan : PlanView P N) (r : System P N) (all : Bool) (told : Option (List ℕ)) (faults : ℕ) (f new : Floor P N) (trace : TraceView) → WentOn r f new → IsWritten plan r all told faults f.at f.failed trace → IsWritten plan r all told faults new.at new.failed trace
  written_on plan r all told faults f new trace on was = record {
    names_are = was.names_are;
    named = was.named;
    all_is = was.all_is;
    whole = λ e. subst (λ l. Got told trace.told (lines_of (names_of plan) all l)) (sym on.records) (was.whole (sym on.failed ∙ e));
    cut = λ e. subst (λ d. GotSomeLines plan r all d told trace.told) (sym (on.stays (sym on.failed ∙ e))) (was.cut (sym on.failed ∙ e));
    fault = λ e. was.fault (sym on.failed ∙ e);
    never_falls = was.never_falls;
    telling = was.telling;
    counted = was.counted ∙ ap (after_records (replicate (length plan.parts) no_tasks)) (sym on.records);
  }
