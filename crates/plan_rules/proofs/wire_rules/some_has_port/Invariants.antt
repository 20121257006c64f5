use Rattle.std.proofs.Common.{◌≡◌, false, take, map}
use Rattle.std.specs.List.{list_any}
use Rattle.plan_rules.specs.Rules.{is_port}
use Rattle.plan_rules.proofs.wire_rules.some_has_port.Given as goal

abbrev pub invariant-loop-ports : goal.invariant-loop-ports
invariant-loop-ports l = list_any (list_any (is_port l.port)) (map (λ v. v.items) (take l.ports-index l.lists)) ≡ false
