-- What the search from the root finds is the least actor that is due.
use Rattle.std.proofs.Common.{length, refl, arith}
use Rattle.event_queue.proofs.DueLemmas.{levels_enough}
use Rattle.event_queue.proofs.TimesLemmas.{NoneDue-from_tree, none_due_in_empty, IsLeastDue-from, tree_sum-le-count}
use Rattle.event_queue.proofs.time_heap.TimeHeap.due_at.Goals as goal

pub returns-then-is_empty-clause-none : goal.returns-then-is_empty-clause-none
returns-then-is_empty-clause-none g c =
    rw (← c.self.view_is) (none_due_in_empty _ _ c.args.t c.args.from.0 c.args.below.0 c.self.invariant.placed (c.if-is_empty.ensures.0 refl))

pub returns-then-least-below-clause-least : goal.returns-then-least-below-clause-least
returns-then-least-below-clause-least g c =
    let row = c.self.inside.row in
    let places = c.self.inside.places.items in
    let least = c.least_due-least.result in
    rw (← c.self.view_is) (IsLeastDue-from row places c.args.t c.args.from.0 c.args.below.0 least c.self.invariant c.if-least-below.true (c.least_due-least.ensures.found c.if-least-below.true)
    (NoneDue-from_tree row places c.args.t c.args.from.0 least c.self.invariant c.least_due-least.ensures.least))

pub returns-else-least-below-clause-none : goal.returns-else-least-below-clause-none
returns-else-least-below-clause-none g c =
    let row = c.self.inside.row in
    let places = c.self.inside.places.items in
    let least = c.least_due-least.result in
    rw (← c.self.view_is) (λ i lo hi. NoneDue-from_tree row places c.args.t c.args.from.0 least c.self.invariant c.least_due-least.ensures.least i lo (omega (arith, hi, c.if-least-below.false)))

pub returns-then-least-below-clause-cost : goal.returns-then-least-below-clause-cost
returns-then-least-below-clause-cost g c =
    let row = c.self.inside.row in
    let few = tree_sum-le-count row c.self.inside.places.items c.args.t c.self.invariant in
    rw (← c.self.view_is) (omega (arith, few, c.least_due-least.ensures.cost (length row.pairs) (omega (arith, levels_enough (length row.pairs)))))

pub returns-else-least-below-clause-cost : goal.returns-else-least-below-clause-cost
returns-else-least-below-clause-cost g c =
    let row = c.self.inside.row in
    let few = tree_sum-le-count row c.self.inside.places.items c.args.t c.self.invariant in
    rw (← c.self.view_is) (omega (arith, few, c.least_due-least.ensures.cost (length row.pairs) (omega (arith, levels_enough (length row.pairs)))))
