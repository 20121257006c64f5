use Rattle.std.proofs.Common.{◌≡◌, false, take}
use Rattle.std.specs.List.{list_any}
use Rattle.plan_rules.proofs.target_test.some_target.Given as goal

abbrev pub invariant-loop-target : goal.invariant-loop-target
invariant-loop-target g l = list_any (g.T.TargetTest.test l.test l.plan) (take l.target-index l.targets) ≡ false
