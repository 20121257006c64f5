use Rattle.std.proofs.Common.{◌≡◌, ◌<◌, ℕ, List, ap, refl, subst}
use Rattle.std.specs.Prelude.{flat_map, count_by}
use Rattle.port_msg.specs.declared.records.Record.{Record}
use Rattle.sim_io.specs.Sink.{GotPrefix}
use Rattle.trace_out.specs.Lines.{has_line, text_of, lines_of}
use Rattle.trace_out.proofs.Writing.{more_counted, some_counted, got_next, got_part, on_err}
use Rattle.trace_out.proofs.write.write_records.Goals as goal

pub returns-in_err-write_record-clause-prefix : goal.returns-in_err-write_record-clause-prefix
returns-in_err-write_record-clause-prefix g c =
    let text = text_of c.args.names.now c.args.all in
    let part = got_part text _ c.loop-record.record-index _ _ _ _ _ _ _ c.loop-record.invariant.0 c.loop-record-test.true refl c.in_err-write_record.ensures.prefix in
    let lines : flat_map text c.items-record-items.result.now ≡ lines_of c.args.names.now c.args.all c.args.recs.now.items =
    ap (flat_map text) c.items-record-items.ensures in
    on_err c.from_residual.result (subst (λ (bytes : List ℕ). GotPrefix (g.K.Sink.told c.args.sink.now) (g.K.Sink.told c.write_record.new.sink) bytes) lines part)

pub returns-in_err-write_record-clause-some : goal.returns-in_err-write_record-clause-some
returns-in_err-write_record-clause-some g c =
    let has = has_line c.args.all in
    let one : 0 < count_by has c.items-record-items.result.now = some_counted has _ c.loop-record.record-index _ _ c.loop-record-test.true refl c.in_err-write_record.ensures.line in
    on_err c.from_residual.result (subst (λ (l : List Record). 0 < count_by has l) c.items-record-items.ensures one)

pub loop-record-preserved : goal.loop-record-preserved
loop-record-preserved g c = (
  got_next (text_of c.args.names.now c.args.all) _ c.loop-record.record-index _ _ _ _ _ _ _ _ c.loop-record.invariant.0 c.loop-record-test.true refl c.in_ok-write_record.ensures.ok c.write_record.ensures.never_falls,
  more_counted (has_line c.args.all) _ c.loop-record.record-index _ _ _ _ _ c.loop-record-test.true refl c.loop-record.invariant.1 c.write_record.ensures.counted,
)
