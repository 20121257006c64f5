use Rattle.std.proofs.Common.{◌≡◌, map}
use Rattle.ring_plan.specs.Ring.{relay_fields, up_to}
use Rattle.ring_plan.proofs.names.relay_fields.Given as goal

abbrev pub invariant-loop : goal.invariant-loop
invariant-loop l = map (λ f. f.items) l.fields.items ≡ map (λ i. relay_fields) (up_to l.counter)
