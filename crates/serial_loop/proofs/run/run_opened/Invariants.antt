use Rattle.std.proofs.Common.{◌≡◌, ◌+◌, ◌-◌, ◌≤◌}
use Rattle.sim_io.specs.Sink.{Got}
use Rattle.tick_law.specs.SerialLoop.{records_below, edges_below, end_below}
use Rattle.tick_law.specs.PlanView.{system_from}
use Rattle.trace_out.specs.Lines.{lines_of}
use Rattle.run_gear.specs.Counted.{counted_with}
use Rattle.run_gear.specs.IsGear.{IsGear}
use Rattle.run_gear.specs.PlanNames.{names_of}
use Rattle.serial_loop.specs.IsAt.{IsAt}
use Rattle.serial_loop.proofs.run.run_opened.Given as goal

abbrev pub invariant-loop-t : goal.invariant-loop-t
invariant-loop-t g l =
    let mp = g.P.Actor.machine in
    let mn = g.N.Actor.machine in
    let plan = g.C.Charter.plan in
    let start = g.C.Charter.start in
    let r = system_from mp mn plan start in
    record {
      gear : IsGear mp mn g.P.Actor.valid g.N.Actor.valid plan start l.gear;
      at : IsAt mp mn plan start l.t l.world l.next;
      within : l.t ≤ l.last + 1;
      end : l.end ≡ end_below r l.t;
      steps : l.steps ≡ l.fn.steps + edges_below r l.t;
      lines : Got (g.K.Sink.told l.fn.sink) (g.K.Sink.told l.sink) (lines_of (names_of plan) l.fn.kept.all (records_below r l.t));
      counted : l.stats ≡ counted_with l.fn.kept.stats (records_below r l.t);
      falls : g.K.Sink.faults l.fn.sink ≤ g.K.Sink.faults l.sink;
    }

abbrev pub decreases-loop-t : goal.decreases-loop-t
decreases-loop-t g l = l.last + 1 - l.t
