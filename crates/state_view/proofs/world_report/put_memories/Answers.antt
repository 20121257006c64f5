use Rattle.state_view.specs.Report.{bytes_of}
use Rattle.state_view.proofs.LineLaws.{one_line_more}
use Rattle.state_view.proofs.world_report.put_memories.Goals as goal

pub loop-no-preserved : goal.loop-no-preserved
loop-no-preserved c =
    one_line_more bytes_of c.args.names.now c.args.parts.now c.loop-no.no c.index-names-no.result c.index-parts-no.result
    c.args.text.now c.loop-no.text c.put_bytes.new.text c.loop-no-test.true c.requires c.index-names-no.is c.index-parts-no.is c.loop-no.invariant c.in_ok-put_bytes.ensures
