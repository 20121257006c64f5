-- The first pair is the root.
use Rattle.std.proofs.Common.{◌<◌, length, refl, arith}
use Rattle.std.proofs.lemmas.Bool.{iff_false}
use Rattle.event_queue.proofs.TimesLemmas.{none_in_empty, IsLeastKey-root}
use Rattle.event_queue.proofs.time_heap.TimeHeap.first.Goals as goal

pub returns-then-is_empty-clause-first : goal.returns-then-is_empty-clause-first
returns-then-is_empty-clause-first g c =
    rw (← c.self.view_is) (none_in_empty _ _ c.self.invariant.placed (c.if-is_empty.ensures.0 refl))

pub returns-clause-first : goal.returns-clause-first
returns-clause-first g c =
    let out = iff_false c.if-is_empty.ensures refl in
    let some : 0 < length c.self.inside.row.pairs = omega (arith, out) in
    rw (← c.self.view_is, c.time.ensures.value, c.who.ensures) (IsLeastKey-root c.self.inside.row c.self.inside.places.items c.self.invariant some)
