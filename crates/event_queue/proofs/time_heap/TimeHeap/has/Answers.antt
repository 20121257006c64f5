use Rattle.std.proofs.Common.{◌<◌, length, None, ap, sym, ◌∙◌, arith}
use Rattle.event_queue.specs.NextTimes.{time_of}
use Rattle.event_queue.proofs.TimesLemmas.{length-times_of, get_or-times_of}
use Rattle.event_queue.proofs.time_heap.TimeHeap.has.Goals as goal

pub place_of-requires-clause-known : goal.place_of-requires-clause-known
place_of-requires-clause-known c =
    omega (arith, ap length c.self.view_is, length-times_of c.self.inside.row.pairs c.self.inside.places.items, c.requires, ap length c.deref.ensures.value)

pub returns-in-None : goal.returns-in-None
returns-in-None c =
    let pairs = c.self.inside.row.pairs in
    let places = c.self.inside.places.items in
    let known : c.args.who.0 < length places = omega (arith, ap length c.self.view_is, length-times_of pairs places, c.requires) in
    let none = rw c.deref.ensures.value at c.in-None.ensures.none in
    λ _. ap (λ times. time_of times c.args.who.0) (sym c.self.view_is) ∙ get_or-times_of pairs places c.args.who.0 None known ∙ none
