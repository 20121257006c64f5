use Rattle.std.proofs.Common.{◌≡◌, take}
use Rattle.sim_io.specs.Sink.{more_by}
use Rattle.trace_out.specs.Lines.{text_of, line_count}
use Rattle.trace_out.proofs.Writing.{GotFirst}
use Rattle.trace_out.proofs.write.write_records.Given as goal

abbrev pub invariant-loop-record : goal.invariant-loop-record
invariant-loop-record g l =
    GotFirst (text_of l.names l.all) l.record-items l.record-index (g.K.Sink.told l.initial.sink) (g.K.Sink.told l.sink) (g.K.Sink.faults l.initial.sink) (g.K.Sink.faults l.sink)
    × (g.K.Sink.writes l.sink ≡ more_by (g.K.Sink.writes l.initial.sink) (line_count l.all (take l.record-index l.record-items)))
