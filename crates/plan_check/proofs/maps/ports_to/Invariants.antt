use Rattle.std.proofs.Common.{◌≡◌, map, take}
use Rattle.plan_check.specs.Maps.{port_to}
use Rattle.plan_check.proofs.maps.ports_to.Given as goal

abbrev pub invariant-loop-part : goal.invariant-loop-part
invariant-loop-part l = l.ports.items ≡ map (port_to l.plan) (take l.part-index l.parts)
