use Rattle.std.proofs.Common.{◌≡◌, false, take, map}
use Rattle.std.specs.List.{list_any}
use Rattle.plan_rules.proofs.target_test.some_in_ranges.Given as goal

abbrev pub invariant-loop-targets : goal.invariant-loop-targets
invariant-loop-targets g l = list_any (list_any (g.T.TargetTest.test l.test l.plan)) (map (λ v. v.items) (take l.targets-index l.ranges)) ≡ false
