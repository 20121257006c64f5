use Rattle.std.proofs.Common.{◌≡◌, ◌++◌}
use Rattle.plan_rules.specs.First.{ranges_to}
use Rattle.plan_rules.proofs.tables.add_ranges.Given as goal

abbrev pub invariant-loop-no : goal.invariant-loop-no
invariant-loop-no l = l.tables.items ≡ l.initial.tables.items ++ ranges_to l.text l.no
