use Rattle.std.proofs.Common.{◌≡◌, map}
use Rattle.ring_plan.specs.Ring.{port_no, up_to}
use Rattle.ring_plan.proofs.wiring.port_numbers.Given as goal

abbrev pub invariant-loop-no : goal.invariant-loop-no
invariant-loop-no l = l.ports.items ≡ map port_no (up_to l.no)
