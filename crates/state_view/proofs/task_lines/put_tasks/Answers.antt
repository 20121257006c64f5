use Rattle.state_view.proofs.TaskLaws.{one_task_more}
use Rattle.state_view.proofs.task_lines.put_tasks.Goals as goal

pub loop-no-preserved : goal.loop-no-preserved
loop-no-preserved c =
    one_task_more c.args.names.now c.args.parts.now c.args.stats.now c.loop-no.no c.index-names-no.result c.index-parts-no.result c.of-count.result
    c.args.text.now c.loop-no.text c.put_task_if.new.text c.loop-no-test.true c.requires.names c.requires.counts c.index-names-no.is c.index-parts-no.is c.of-count.ensures c.loop-no.invariant c.in_ok-put_task_if.ensures
