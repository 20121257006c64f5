use Rattle.std.proofs.Common.{◌≡◌, map, take}
use Rattle.run_gear.specs.PlanNames.{port_name}
use Rattle.run_gear.proofs.names.port_names.Given as goal

abbrev pub invariant-loop-port : goal.invariant-loop-port
invariant-loop-port l = l.names.items ≡ map port_name (take l.port-index l.ports)
