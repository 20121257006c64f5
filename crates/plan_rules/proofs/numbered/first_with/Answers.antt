use Rattle.std.proofs.Common.{sym, ◌∙◌, Some}
use Rattle.std.specs.List.{list_any}
use Rattle.plan_rules.specs.Rules.{is_port}
use Rattle.plan_rules.proofs.Lists.{position_of_mapped}
use Rattle.plan_rules.proofs.numbered.first_with.Goals as goal

pub returns-clause-value : goal.returns-clause-value
returns-clause-value c = c.place_among.ensures.value ∙ sym (position_of_mapped (list_any (is_port (Some c.args.port))) (λ v. v.items) c.args.lists.now)
