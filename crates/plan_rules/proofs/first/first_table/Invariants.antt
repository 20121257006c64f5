use Rattle.std.proofs.Common.{◌≡◌, drop}
use Rattle.std.specs.Prelude.{find}
use Rattle.plan_rules.specs.Rules.{breaks}
use Rattle.plan_rules.proofs.first.first_table.Given as goal

-- the tables from here on decide
abbrev pub invariant-loop-table : goal.invariant-loop-table
invariant-loop-table l = find (breaks l.plan l.rule) (drop l.table-index l.tables) ≡ find (breaks l.plan l.rule) l.tables
