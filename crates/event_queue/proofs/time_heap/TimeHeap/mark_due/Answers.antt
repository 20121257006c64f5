-- What is marked from the root on is who is due.
use Rattle.std.proofs.Common.{◌+◌, inl, inr, length, ap, sym, ◌∙◌, refl, arith}
use Rattle.event_queue.specs.NextTimes.{time_of}
use Rattle.event_queue.proofs.DueLemmas.{levels_enough}
use Rattle.event_queue.proofs.TimesLemmas.{none_due_in_empty, marked-from_tree, time_of-due, tree_sum-le-count}
use Rattle.event_queue.proofs.time_heap.TimeHeap.mark_due.Goals as goal

pub returns-then-is_empty-clause-marked : goal.returns-then-is_empty-clause-marked
returns-then-is_empty-clause-marked g c = λ i b e.
    absurd (none_due_in_empty c.self.inside.row.pairs c.self.inside.places.items c.args.t 0 (c.args.from.0 + i + 1) c.self.invariant.placed (c.if-is_empty.ensures.0 refl) (c.args.from.0 + i) (omega arith) (omega arith) (ap (λ l. time_of l (c.args.from.0 + i)) c.self.view_is ∙ e))

pub returns-clause-marked : goal.returns-clause-marked
returns-clause-marked g c = λ i b e.
    marked-from_tree c.self.inside.row c.self.inside.places.items c.args.t c.args.from.0 c.args.below.0 c.mark_due.new.due c.self.invariant c.mark_due.ensures.all i (omega (arith, b, c.requires)) (ap (λ l. time_of l (c.args.from.0 + i)) c.self.view_is ∙ e)

pub returns-clause-found : goal.returns-clause-found
returns-clause-found g c = λ i h. elim (c.mark_due.ensures.found i h) [
  | inl was ↦ inl was
  | inr d ↦ inr (ap (λ l. time_of l (c.args.from.0 + i)) (sym c.self.view_is) ∙ time_of-due c.self.inside.row c.self.inside.places.items c.args.t c.args.from.0 (c.args.from.0 + i) c.self.invariant d)
]

pub returns-clause-cost : goal.returns-clause-cost
returns-clause-cost g c =
    let row = c.self.inside.row in
    let few = tree_sum-le-count row c.self.inside.places.items c.args.t c.self.invariant in
    rw (← c.self.view_is) (omega (arith, few, c.mark_due.ensures.cost (length row.pairs) (omega (arith, levels_enough (length row.pairs)))))
