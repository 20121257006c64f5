use Rattle.std.proofs.Common.{◌∙◌}
use Rattle.top_run.proofs.Telling.{fault_alone}
use Rattle.top_run.proofs.carry.show.Goals as goal

pub returns-clause-fault : goal.returns-clause-fault
returns-clause-fault g c = fault_alone c.write_report.result _ _ (g.K.Sink.told c.args.out.now) (g.K.Sink.told c.write_report.new.out) _ c.deref.result.now (c.deref.ensures.value ∙ c.in_ok-line.ensures.line) c.write_report.ensures.fault c.write_report.ensures.write
