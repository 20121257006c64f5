-- There is room, and no more pairs than actors.
use Rattle.std.proofs.Common.{arith}
use Rattle.event_queue.proofs.CountLemmas.{pairs-le-places, pairs-lt-places}
use Rattle.event_queue.proofs.edits.set.Goals as goal

pub put_new-requires-clause-room : goal.put_new-requires-clause-room
put_new-requires-clause-room g c =
    omega (arith, c.requires.indexed.room, pairs-lt-places _ _ c.args.who.0 c.requires.indexed.placed c.requires.known c.in-None.ensures.none)

pub returns-in-Some-clause-cost : goal.returns-in-Some-clause-cost
returns-in-Some-clause-cost g c =
    let few = pairs-le-places _ _ c.requires.indexed.placed in
    λ b lt. omega (arith, c.put_time.ensures.cost b (omega (arith, few, lt)))
