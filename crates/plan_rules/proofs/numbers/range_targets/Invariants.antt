use Rattle.std.proofs.Common.{◌≡◌, map, take}
use Rattle.plan_rules.specs.Text.{part_no}
use Rattle.plan_rules.proofs.numbers.range_targets.Given as goal

abbrev pub invariant-loop-name : goal.invariant-loop-name
invariant-loop-name l = l.targets.items ≡ map (part_no l.text) (take l.name-index l.name-items)
