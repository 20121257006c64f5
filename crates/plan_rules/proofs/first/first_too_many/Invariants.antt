use Rattle.std.proofs.Common.{◌≡◌, drop}
use Rattle.std.specs.Prelude.{find}
use Rattle.plan_rules.specs.Rules.{too_many}
use Rattle.plan_rules.proofs.first.first_too_many.Given as goal

-- the tables from here on decide
abbrev pub invariant-loop-table : goal.invariant-loop-table
invariant-loop-table l = find (too_many l.text) (drop l.table-index l.tables) ≡ find (too_many l.text) l.tables
