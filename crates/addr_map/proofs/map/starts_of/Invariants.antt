use Rattle.addr_map.specs.Start.{AreStarts}
use Rattle.addr_map.proofs.map.starts_of.Given as goal

abbrev pub invariant-loop-no : goal.invariant-loop-no
invariant-loop-no l = AreStarts l.ranges l.no l.starts.items
