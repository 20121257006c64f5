use Rattle.std.proofs.Common.{◌≡◌, ◌+◌, ◌-◌, ◌<◌, ◌≤◌}
use Rattle.std.specs.Prelude.{is_some}
use Rattle.sim_io.specs.Sink.{Got}
use Rattle.tick_law.specs.SerialLoop.{end_below}
use Rattle.tick_law.specs.PlanView.{system_from}
use Rattle.tick_law.specs.Verdict.{awake_below}
use Rattle.trace_out.specs.Lines.{lines_of}
use Rattle.run_gear.specs.Counted.{counted_with}
use Rattle.run_gear.specs.PlanNames.{names_of}
use Rattle.phase_engine.specs.Between.{records_between}
use Rattle.phase_engine.specs.RunGear.{IsRunGear, IsDueBy, IsAt}
use Rattle.phase_engine.specs.Run.{IsOf}
use Rattle.phase_engine.proofs.run_lines.run_due.Given as goal

abbrev pub invariant-loop-t : goal.invariant-loop-t
invariant-loop-t g l =
    let mp = g.P.Actor.machine in
    let mn = g.N.Actor.machine in
    let plan = g.C.Charter.plan in
    let start = g.C.Charter.start in
    let r = system_from mp mn plan start in
    record {
      gear : IsRunGear mp mn g.P.Actor.valid g.N.Actor.valid plan start l.run.world l.run.gear;
      at : IsAt mp mn plan start l.t l.run.world l.run.gear.next;
      of : IsOf plan start l.run;
      bound : l.bound ≡ plan.until + 1;
      within : l.t ≤ l.bound;
      due : l.t < l.bound → IsDueBy l.run.gear.next l.t;
      end : l.run.end ≡ end_below r l.t;
      onward : l.fn.run.at ≤ l.t;
      steps : l.steps + awake_below r l.fn.run.at ≡ l.fn.steps + awake_below r l.t;
      lines : Got (g.K.Sink.told l.fn.sink) (g.K.Sink.told l.sink) (lines_of (names_of plan) l.all (records_between r l.fn.run.at l.t));
      counted : l.stats ≡ counted_with l.fn.stats (records_between r l.fn.run.at l.t);
      falls : g.K.Sink.faults l.fn.sink ≤ g.K.Sink.faults l.sink;
      telling : is_some (g.K.Sink.told l.sink) ≡ is_some (g.K.Sink.told l.fn.sink);
    }

abbrev pub decreases-loop-t : goal.decreases-loop-t
decreases-loop-t g l = l.bound - l.t
