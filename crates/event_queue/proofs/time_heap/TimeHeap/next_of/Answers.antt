-- The time of an actor is that of its pair.
use Rattle.std.proofs.Common.{◌<◌, length, Some, None, ap, sym, ◌∙◌, arith}
use Rattle.sim_base.specs.declared.time.Time.{Time}
use Rattle.event_queue.specs.NextTimes.{time_of}
use Rattle.event_queue.proofs.TimesLemmas.{length-times_of, get_or-times_of}
use Rattle.event_queue.proofs.time_heap.TimeHeap.next_of.Goals as goal

pub place_of-requires-clause-known : goal.place_of-requires-clause-known
place_of-requires-clause-known g c =
    omega (arith, ap length c.self.view_is, length-times_of c.self.inside.row.pairs c.self.inside.places.items, c.requires, ap length c.deref.ensures.value)

pub returns-in_err-place-clause-value : goal.returns-in_err-place-clause-value
returns-in_err-place-clause-value g c =
    let pairs = c.self.inside.row.pairs in
    let places = c.self.inside.places.items in
    let known : c.args.who.0 < length places = omega (arith, ap length c.self.view_is, length-times_of pairs places, c.requires) in
    let none = rw c.deref.ensures.value at c.in_err-place.ensures.none in
    c.from_residual.ensures ∙ sym none ∙ sym (get_or-times_of pairs places c.args.who.0 None known) ∙ ap (λ times. time_of times c.args.who.0) c.self.view_is

pub returns-clause-value : goal.returns-clause-value
returns-clause-value g c =
    let pairs = c.self.inside.row.pairs in
    let places = c.self.inside.places.items in
    let known : c.args.who.0 < length places = omega (arith, ap length c.self.view_is, length-times_of pairs places, c.requires) in
    let found = rw c.deref.ensures.value at c.in_ok-place.ensures.time in
    ap (λ (t : Time). Some t) c.time.ensures.value ∙ sym found ∙ sym (get_or-times_of pairs places c.args.who.0 None known) ∙ ap (λ times. time_of times c.args.who.0) c.self.view_is
