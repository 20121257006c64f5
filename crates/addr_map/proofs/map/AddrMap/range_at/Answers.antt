-- A range that holds the address is the last that starts at or below it.
use Rattle.std.proofs.Common.{refl}
use Rattle.std.proofs.lemmas.Bool.{iff_false}
use Rattle.addr_map.proofs.MapLemmas.{none_starts_below, last_is_not}
use Rattle.addr_map.proofs.map.AddrMap.range_at.Goals as goal

pub returns-then-below-eq0-clause-none : goal.returns-then-below-eq0-clause-none
returns-then-below-eq0-clause-none c =
    let point = rw c.deref.ensures.value at c.count_below-below.ensures in
    rw (← c.self.view_is) (none_starts_below _ _ _ _ c.self.invariant point c.if-below-eq0.true)

pub returns-else-holds-clause-none : goal.returns-else-holds-clause-none
returns-else-holds-clause-none c =
    let point = rw c.deref.ensures.value at c.count_below-below.ensures in
    rw (← c.self.view_is) (last_is_not _ _ _ _ c.self.invariant point c.index.result.now c.index-range.result.now c.index.ensures c.index-range.ensures (iff_false c.if-holds.ensures refl))
