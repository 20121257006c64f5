use Rattle.std.proofs.Common.{◌≡◌, map, take}
use Rattle.plan_rules.specs.Text.{map_targets}
use Rattle.plan_rules.proofs.numbers.all_targets.Given as goal

abbrev pub invariant-loop-table : goal.invariant-loop-table
invariant-loop-table l = map (λ w. map (λ x. x.items) w.items) l.targets.items ≡ map (map_targets l.text) (take l.table-index l.table-items)
