use Rattle.std.proofs.Common.{◌≡◌, ◌++◌}
use Rattle.storm_gen.specs.Storm.{each, memory_port}
use Rattle.storm_gen.proofs.names.add_memory_ports.Given as goal

abbrev pub invariant-loop-no : goal.invariant-loop-no
invariant-loop-no l = l.ports.items ≡ l.fn.ports.items ++ each memory_port l.no
