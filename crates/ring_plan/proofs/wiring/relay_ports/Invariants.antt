use Rattle.std.proofs.Common.{◌≡◌, [], ◌∷◌, map}
use Rattle.ring_plan.specs.Ring.{port_no, up_to}
use Rattle.ring_plan.proofs.wiring.relay_ports.Given as goal

abbrev pub invariant-loop-no : goal.invariant-loop-no
invariant-loop-no l = map (λ v. v.items) l.own.items ≡ map (λ i. port_no i ∷ []) (up_to l.no)
