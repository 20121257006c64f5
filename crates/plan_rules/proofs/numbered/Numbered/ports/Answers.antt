use Rattle.std.proofs.Common.{◌∙◌}
use Rattle.plan_rules.proofs.Lists.{ports_of_link}
use Rattle.plan_rules.proofs.numbered.Numbered.ports.Goals as goal

pub returns-clause-of_link : goal.returns-clause-of_link
returns-clause-of_link c = λ table there. c.ports_by.ensures ∙ ports_of_link c.args.self.now c.args.link table there
