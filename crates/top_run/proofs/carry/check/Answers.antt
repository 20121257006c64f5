use Rattle.std.proofs.Common.{◌∙◌}
use Rattle.top_run.proofs.Telling.{broke_alone}
use Rattle.top_run.proofs.carry.check.Goals as goal

pub returns-clause-behind : goal.returns-clause-behind
returns-clause-behind g c = broke_alone c.write_report.result _ (g.K.Sink.told c.args.out.now) (g.K.Sink.told c.write_report.new.out) _ c.as_slice.result.now (c.as_slice.ensures.value ∙ c.check_line-line.ensures) c.write_report.ensures.fault
