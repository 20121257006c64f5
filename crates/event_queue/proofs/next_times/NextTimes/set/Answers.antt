use Rattle.std.proofs.Common.{◌<◌, set, length, Some, None, ap, ◌∙◌, arith, refl}
use Rattle.event_queue.proofs.MergedLemmas.{length-merged, Sets-is, Sets-then, merged_now}
use Rattle.event_queue.proofs.next_times.NextTimes.set.Goals as goal

pub clear-requires : goal.clear-requires
clear-requires g c = omega (arith, ap length c.self.view_is, length-merged c.self.inside.near c.self.inside.heap, c.requires)

pub join-requires-clause-known : goal.join-requires-clause-known
join-requires-clause-known g c =
    let who = c.args.who.0 in
    let known : who < length c.self.inside.near = omega (arith, ap length c.self.view_is, length-merged c.self.inside.near c.self.inside.heap, c.requires) in
    let gone = Sets-is _ _ _ _ known c.clear.ensures in
    omega (arith, known, gone.count)

pub join-requires-clause-absent : goal.join-requires-clause-absent
join-requires-clause-absent g c =
    let who = c.args.who.0 in
    let known : who < length c.self.inside.near = omega (arith, ap length c.self.view_is, length-merged c.self.inside.near c.self.inside.heap, c.requires) in
    let gone = Sets-is _ _ _ _ known c.clear.ensures in
    gone.here

pub clear-requires-then-join : goal.clear-requires-then-join
clear-requires-then-join g c = omega (arith, ap length c.self.view_is, length-merged c.self.inside.near c.self.inside.heap, c.requires, c.self.invariant.same_length)

pub set-requires : goal.set-requires
set-requires g c = omega (arith, ap length c.self.view_is, length-merged c.self.inside.near c.self.inside.heap, c.requires, c.self.invariant.same_length)

pub returns-then-join-clause-set : goal.returns-then-join-clause-set
returns-then-join-clause-set g c =
    let who = c.args.who.0 in
    let known : who < length c.self.inside.near = omega (arith, ap length c.self.view_is, length-merged c.self.inside.near c.self.inside.heap, c.requires) in
    let gone = Sets-is _ _ _ _ known c.clear.ensures in
    merged_now c.self.inside.near c.self.inside.heap _ _ who (Some c.args.t) None c.self.invariant (Sets-then _ _ _ who _ _ gone (Sets-is _ _ _ _ (omega (arith, known, gone.count)) (c.if-join.ensures.joined refl)))
    (Sets-is _ _ _ _ (omega (arith, known, c.self.invariant.same_length)) c.clear-then-join.ensures.cleared) known
    ∙ ap (λ times. set times who (Some c.args.t)) c.self.view_is

pub returns-else-join-clause-set : goal.returns-else-join-clause-set
returns-else-join-clause-set g c =
    let who = c.args.who.0 in
    let known : who < length c.self.inside.near = omega (arith, ap length c.self.view_is, length-merged c.self.inside.near c.self.inside.heap, c.requires) in
    let gone = Sets-is _ _ _ _ known c.clear.ensures in
    merged_now c.self.inside.near c.self.inside.heap _ _ who None (Some c.args.t) c.self.invariant (Sets-is _ _ _ _ known (c.if-join.ensures.refused refl ∙ c.clear.ensures))
    (Sets-is _ _ _ _ (omega (arith, known, c.self.invariant.same_length)) c.set.ensures.set) known
    ∙ ap (λ times. set times who (Some c.args.t)) c.self.view_is

pub returns-then-join-clause-cost : goal.returns-then-join-clause-cost
returns-then-join-clause-cost g c = λ b lt. c.clear-then-join.ensures.cost b (omega (arith, lt, ap length c.self.view_is, length-merged c.self.inside.near c.self.inside.heap, c.self.invariant.same_length))

pub returns-else-join-clause-cost : goal.returns-else-join-clause-cost
returns-else-join-clause-cost g c = λ b lt. c.set.ensures.cost b (omega (arith, lt, ap length c.self.view_is, length-merged c.self.inside.near c.self.inside.heap, c.self.invariant.same_length))
