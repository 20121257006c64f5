use Rattle.top_run.proofs.Telling.{told_line}
use Rattle.top_run.proofs.top.tell.Goals as goal

pub returns : goal.returns
returns g c = told_line c.write.result _ _ _ _ c.args.line.now c.write.ensures.ok c.write.ensures.prefix c.write.ensures.fault
