use Rattle.std.proofs.Common.{◌∙◌}
use Rattle.plan_rules.proofs.Lists.{targets_of_range}
use Rattle.plan_rules.proofs.numbered.Numbered.targets.Goals as goal

pub returns-clause-of_range : goal.returns-clause-of_range
returns-clause-of_range c = λ table there. c.targets_by.ensures ∙ targets_of_range c.args.self.now c.args.no c.args.range table there
