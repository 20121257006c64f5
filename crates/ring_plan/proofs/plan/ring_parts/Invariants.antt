use Rattle.std.proofs.Common.{◌≡◌, map}
use Rattle.part_kind.specs.declared.part.Part.TheVariants.{Relay}
use Rattle.ring_plan.specs.Ring.{ring_relay, up_to}
use Rattle.ring_plan.proofs.plan.ring_parts.Given as goal

abbrev pub invariant-loop-no : goal.invariant-loop-no
invariant-loop-no l = l.parts.items ≡ map (λ i. Relay (ring_relay l.count i)) (up_to l.no)
