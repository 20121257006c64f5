use Rattle.state_view.specs.Report.{link_line}
use Rattle.state_view.proofs.LineLaws.{one_line_more}
use Rattle.state_view.proofs.world_report.put_links.Goals as goal

pub loop-no-preserved : goal.loop-no-preserved
loop-no-preserved c =
    one_line_more link_line c.args.names.now c.args.links.now c.loop-no.no c.index-names-no.result c.index-links-no.result
    c.args.text.now c.loop-no.text c.put_link.new.text c.loop-no-test.true c.requires c.index-names-no.is c.index-links-no.is c.loop-no.invariant c.in_ok-put_link.ensures
