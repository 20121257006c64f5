use Rattle.std.proofs.Common.{◌≡◌, take, drop, map, []}
use Rattle.plan_rules.specs.Rules.{has_twice}
use Rattle.plan_rules.proofs.wire_rules.has_twice.Given as goal

-- the ports from here on decide
abbrev pub invariant-loop-place : goal.invariant-loop-place
invariant-loop-place l = has_twice (map (λ v. v.items) l.earlier) (take l.place l.ports) (drop l.place l.ports) ≡ has_twice (map (λ v. v.items) l.earlier) [] l.ports
