use Rattle.std.proofs.Common.{◌≡◌, false, take}
use Rattle.std.specs.List.{list_any}
use Rattle.plan_rules.specs.Rules.{is_outside, keys_of}
use Rattle.plan_rules.proofs.size_rules.some_outside.Given as goal

abbrev pub invariant-loop-target : goal.invariant-loop-target
invariant-loop-target l = list_any (λ target. is_outside l.plan l.range (keys_of l.plan target)) (take l.target-index l.targets) ≡ false
