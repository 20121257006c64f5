-- One actor's time changes.
use Rattle.std.proofs.Common.{◌<◌, length, set, Some, ap, sym, ◌∙◌, arith}
use Rattle.std.proofs.lemmas.List.{with_items_is}
use Rattle.event_queue.specs.Places.{times_of}
use Rattle.event_queue.proofs.TimesLemmas.{length-times_of, times_of-set}
use Rattle.event_queue.proofs.time_heap.TimeHeap.set.Goals as goal

pub set-requires-clause-known : goal.set-requires-clause-known
set-requires-clause-known g c =
    omega (arith, ap length c.self.view_is, length-times_of c.self.inside.row.pairs c.self.inside.places.items, c.requires, ap length c.deref_mut.ensures.value)

pub returns-clause-set : goal.returns-clause-set
returns-clause-set g c =
    let was = c.self.inside.row.pairs in
    let was_at = c.self.inside.places.items in
    let now = c.set.new.row.pairs in
    let now_at = c.set.new.places in
    let who = c.args.who.0 in
    let known : who < length was_at = omega (arith, ap length c.self.view_is, length-times_of was was_at, c.requires) in
    let change = rw c.deref_mut.ensures.value at c.set.ensures.set in
    ap (times_of now) (with_items_is c.self.inside.places now_at (change.actors ∙ sym (ap length c.deref_mut.ensures.value) ∙ c.deref_mut.ensures.len))
    ∙ times_of-set was now was_at now_at who _ known change
    ∙ ap (λ times. set times who (Some c.args.t)) c.self.view_is

pub returns-clause-cost : goal.returns-clause-cost
returns-clause-cost g c =
    λ b lt. c.set.ensures.cost b (omega (arith, lt, ap length c.self.view_is, length-times_of c.self.inside.row.pairs c.self.inside.places.items, ap length c.deref_mut.ensures.value))
