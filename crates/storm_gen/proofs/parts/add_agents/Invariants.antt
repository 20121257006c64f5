use Rattle.std.proofs.Common.{◌≡◌, ◌++◌}
use Rattle.storm_gen.specs.Storm.{each, storm_agent}
use Rattle.storm_gen.proofs.parts.add_agents.Given as goal

abbrev pub invariant-loop-no : goal.invariant-loop-no
invariant-loop-no l = l.parts.items ≡ l.fn.parts.items ++ each storm_agent l.no
