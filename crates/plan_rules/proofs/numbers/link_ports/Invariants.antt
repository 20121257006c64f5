use Rattle.std.proofs.Common.{◌≡◌, map, take}
use Rattle.plan_rules.specs.Text.{port_numbers}
use Rattle.plan_rules.proofs.numbers.link_ports.Given as goal

abbrev pub invariant-loop-link : goal.invariant-loop-link
invariant-loop-link l = map (λ w. w.items) l.ports.items ≡ map (port_numbers l.text) (take l.link-index l.link-items)
