use Rattle.std.proofs.Common.{◌≡◌, map, take}
use Rattle.plan_rules.specs.Text.{range_targets}
use Rattle.plan_rules.proofs.numbers.map_targets.Given as goal

abbrev pub invariant-loop-range : goal.invariant-loop-range
invariant-loop-range l = map (λ w. w.items) l.targets.items ≡ map (range_targets l.text) (take l.range-index l.range-items)
