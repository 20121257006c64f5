use Rattle.std.proofs.Common.{◌≡◌, ◌++◌}
use Rattle.plan_rules.specs.First.{tables_of}
use Rattle.plan_rules.proofs.tables.add_tables.Given as goal

abbrev pub invariant-loop-no : goal.invariant-loop-no
invariant-loop-no l = l.tables.items ≡ l.initial.tables.items ++ tables_of l.sort l.no
