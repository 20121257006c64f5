use Rattle.std.proofs.Common.{◌≡◌, take}
use Rattle.addr_map.proofs.map.copied.Given as goal

abbrev pub invariant-loop-range : goal.invariant-loop-range
invariant-loop-range l = l.copies.items ≡ take l.range-index l.ranges
