use Rattle.std.proofs.Common.{sym, ap, ◌∙◌, get_or, arith}
use Rattle.std.specs.Prelude.{find}
use Rattle.plan_rules.specs.declared.rule.PlanRule.TheVariants.{TooMany}
use Rattle.plan_rules.specs.declared.rule.TheConstants.{RULES}
use Rattle.plan_rules.specs.First.{first_broken}
use Rattle.plan_rules.specs.Rules.{breaks}
use Rattle.plan_rules.proofs.Few.{told_here}
use Rattle.plan_rules.proofs.first.first_broken.Goals as goal

pub returns-in-Some : goal.returns-in-Some
unfolding first_broken
returns-in-Some c =
    let found = ap (find (breaks c.args.plan.now (get_or RULES c.loop-rule.rule-index TooMany))) (sym c.requires) ∙ sym c.first_table.ensures ∙ c.in-Some.is in
    sym (told_here c.args.plan.now RULES c.loop-rule.rule-index TooMany c.in-Some.table (omega arith) found) ∙ c.loop-rule.invariant
