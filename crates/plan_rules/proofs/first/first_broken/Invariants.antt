use Rattle.std.proofs.Common.{◌≡◌, drop}
use Rattle.plan_rules.specs.declared.rule.TheConstants.{RULES}
use Rattle.plan_rules.specs.First.{first_of}
use Rattle.plan_rules.proofs.first.first_broken.Given as goal

-- the rules from here on decide
abbrev pub invariant-loop-rule : goal.invariant-loop-rule
invariant-loop-rule l = first_of l.plan (drop l.rule-index RULES) ≡ first_of l.plan RULES
