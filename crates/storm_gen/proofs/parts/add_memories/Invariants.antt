use Rattle.std.proofs.Common.{◌≡◌, ◌++◌}
use Rattle.storm_gen.specs.Storm.{each, storm_memory}
use Rattle.storm_gen.proofs.parts.add_memories.Given as goal

abbrev pub invariant-loop-no : goal.invariant-loop-no
invariant-loop-no l = l.parts.items ≡ l.fn.parts.items ++ each storm_memory l.no
