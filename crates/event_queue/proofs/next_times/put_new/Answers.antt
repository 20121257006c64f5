use Rattle.std.proofs.Common.{set, Some, None, ap, ◌∙◌, arith, refl}
use Rattle.event_queue.specs.NextTimes.{earlier}
use Rattle.event_queue.proofs.MergedLemmas.{Sets-is, Sets-same, merged_now}
use Rattle.event_queue.proofs.next_times.put_new.Goals as goal

pub returns-then-not-join-clause-put : goal.returns-then-not-join-clause-put
returns-then-not-join-clause-put g c =
    let who = c.args.who.0 in
    merged_now c.args.near.now c.args.heap.now _ _ who None (Some c.args.t) c.requires.apart (Sets-same _ _ _ _ (c.if-not-join.ensures.refused refl) c.requires.not_near)
    (Sets-is _ _ _ _ (omega (arith, c.requires.known, c.requires.apart.same_length)) (c.set_earlier.ensures.set ∙ ap (λ o. set c.args.heap.now who (Some (earlier o c.args.t))) c.requires.not_far))
    c.requires.known

pub returns-else-not-join-clause-put : goal.returns-else-not-join-clause-put
returns-else-not-join-clause-put g c =
    merged_now c.args.near.now c.args.heap.now _ _ c.args.who.0 (Some c.args.t) None c.requires.apart (Sets-is _ _ _ _ c.requires.known (c.if-not-join.ensures.joined refl)) (Sets-same _ _ _ _ refl c.requires.not_far) c.requires.known
