use Rattle.std.proofs.Common.{◌+◌, ◌-◌, ◌≤◌, ◌≡◌, length}
use Rattle.std.specs.Prelude.{is_some}
use Rattle.sim_io.specs.Sink.{Got}
use Rattle.trace_out.specs.Lines.{lines_of}
use Rattle.run_hub.specs.Lines.{side_records}
use Rattle.run_hub.proofs.lines.write_side.Given as goal

abbrev pub invariant-loop-no : goal.invariant-loop-no
invariant-loop-no g l = record {
  within : l.at ≤ length l.back;
  got : Got (g.K.Sink.told l.fn.sink) (g.K.Sink.told l.sink) (lines_of l.names l.all (side_records l.back l.seats.items l.at));
  falls : g.K.Sink.faults l.fn.sink ≤ g.K.Sink.faults l.sink;
  telling : is_some (g.K.Sink.told l.sink) ≡ is_some (g.K.Sink.told l.fn.sink);
}

abbrev pub decreases-loop-no : goal.decreases-loop-no
decreases-loop-no g l = length l.back + 1 - l.at
