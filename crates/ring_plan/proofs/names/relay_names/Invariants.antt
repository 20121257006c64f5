use Rattle.std.proofs.Common.{◌≡◌, map}
use Rattle.ring_plan.specs.Ring.{relay_name, up_to}
use Rattle.ring_plan.proofs.names.relay_names.Given as goal

abbrev pub invariant-loop-no : goal.invariant-loop-no
invariant-loop-no l = l.names.items ≡ map relay_name (up_to l.no)
