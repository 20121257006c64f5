use Rattle.std.proofs.Common.{◌∙◌}
use Rattle.phase_engine.proofs.plan_run.run_of.Goals as goal

pub returns-in-Ok-clause-verdict : goal.returns-in-Ok-clause-verdict
returns-in-Ok-clause-verdict g c = c.into_ending.ensures.verdict ∙ c.in-Ok.ensures.verdict
