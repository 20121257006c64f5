use Rattle.std.proofs.Common.{◌≡◌, map}
use Rattle.ring_plan.specs.Ring.{ring_port, up_to}
use Rattle.ring_plan.proofs.wiring.ring_ports.Given as goal

abbrev pub invariant-loop-no : goal.invariant-loop-no
invariant-loop-no l = l.ports.items ≡ map ring_port (up_to l.no)
