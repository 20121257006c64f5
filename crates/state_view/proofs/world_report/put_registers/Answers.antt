use Rattle.state_view.specs.Report.{regs_of}
use Rattle.state_view.proofs.LineLaws.{one_line_more}
use Rattle.state_view.proofs.world_report.put_registers.Goals as goal

pub loop-no-preserved : goal.loop-no-preserved
loop-no-preserved c =
    one_line_more regs_of c.args.names.now c.args.parts.now c.loop-no.no c.index-names-no.result c.index-parts-no.result
    c.args.text.now c.loop-no.text c.put_regs_of.new.text c.loop-no-test.true c.requires c.index-names-no.is c.index-parts-no.is c.loop-no.invariant c.in_ok-put_regs_of.ensures
