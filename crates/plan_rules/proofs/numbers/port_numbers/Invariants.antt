use Rattle.std.proofs.Common.{◌≡◌, map, take}
use Rattle.plan_rules.specs.Text.{port_no}
use Rattle.plan_rules.proofs.numbers.port_numbers.Given as goal

abbrev pub invariant-loop-port : goal.invariant-loop-port
invariant-loop-port l = l.ports.items ≡ map (port_no l.text) (take l.port-index l.port-items)
