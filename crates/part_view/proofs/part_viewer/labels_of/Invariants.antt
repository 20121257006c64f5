use Rattle.std.proofs.Common.{◌≡◌, map, take}
use Rattle.world_query.specs.Legend.{port_label}
use Rattle.part_view.proofs.part_viewer.labels_of.Given as goal

abbrev pub invariant-loop-port : goal.invariant-loop-port
invariant-loop-port l = l.labels.items ≡ map (port_label l.part_names) (take l.port-index l.ports)
