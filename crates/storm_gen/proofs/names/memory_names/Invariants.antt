use Rattle.std.proofs.Common.{◌≡◌}
use Rattle.storm_gen.specs.Storm.{each, memory_name}
use Rattle.storm_gen.proofs.names.memory_names.Given as goal

abbrev pub invariant-loop-no : goal.invariant-loop-no
invariant-loop-no l = l.names.items ≡ each memory_name l.no
