use Rattle.std.proofs.Common.{◌≡◌, false, take}
use Rattle.std.specs.List.{list_any}
use Rattle.plan_rules.specs.Rules.{holds}
use Rattle.plan_rules.proofs.covers.end_at.Given as goal

abbrev pub invariant-loop-range : goal.invariant-loop-range
invariant-loop-range l = list_any (holds l.byte) (take l.range-index l.ranges) ≡ false
