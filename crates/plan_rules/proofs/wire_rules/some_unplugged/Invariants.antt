use Rattle.std.proofs.Common.{◌≡◌, ◌+◌, false}
use Rattle.std.specs.Prelude.{is_none}
use Rattle.plan_rules.specs.Rules.{link_of}
use Rattle.plan_rules.specs.Text.{some_below}
use Rattle.plan_rules.proofs.wire_rules.some_unplugged.Given as goal

abbrev pub invariant-loop-place : goal.invariant-loop-place
invariant-loop-place l = some_below l.place (λ k. is_none (link_of l.plan (l.first + k))) ≡ false
