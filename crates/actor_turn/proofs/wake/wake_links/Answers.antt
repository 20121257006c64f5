use Rattle.std.proofs.Common.{length, get_or, ap, ◌∙◌, arith, refl}
use Rattle.actor_turn.specs.Waking.{woken_by}
use Rattle.std.specs.Prelude.{false}
use Rattle.actor_turn.proofs.WakingLaws.{can_wake_still, can_wake_owner, waking_none, waking_more}
use Rattle.actor_turn.proofs.wake.wake_links.Goals as goal

pub loop-q-init : goal.loop-q-init
loop-q-init g c = waking_none false c.args.own.now c.args.links.now c.args.from c.args.rows.now c.args.next.now

pub note_change-changed-requires : goal.note_change-changed-requires
note_change-changed-requires g c =
    let own = c.args.own.now in
    let k = c.loop-q.q-index in
    omega (arith, c.requires.within (get_or own k 0) (k, c.loop-q-test.true, refl), ap length c.loop-q.invariant.ports)

pub wake_where-requires-clause-port : goal.wake_where-requires-clause-port
wake_where-requires-clause-port g c =
    let own = c.args.own.now in
    let k = c.loop-q.q-index in
    omega (arith, c.requires.within (get_or own k 0) (k, c.loop-q-test.true, refl), c.requires.wakes.wakes.owner)

pub wake_where-requires-clause-wakes : goal.wake_where-requires-clause-wakes
wake_where-requires-clause-wakes g c =
    can_wake_owner c.args.links.now (length c.args.rows.now.ports) c.loop-q.next
    (can_wake_still c.args.links.now (length c.args.rows.now.ports) c.args.next.now c.loop-q.next c.requires.wakes c.loop-q.invariant.all)

pub loop-q-preserved : goal.loop-q-preserved
loop-q-preserved g c =
    let own = c.args.own.now in
    let k = c.loop-q.q-index in
    let here = c.requires.within (get_or own k 0) (k, c.loop-q-test.true, refl) in
    let noted = c.note_change-changed.ensures in
    waking_more false own c.args.links.now (length c.args.rows.now.ports) c.args.from c.args.rows.now c.args.next.now k c.loop-q.rows c.note_change-changed.new.rows c.loop-q.next c.wake_where.new.next c.requires.apart c.loop-q-test.true here c.requires.wakes c.loop-q.invariant noted.within noted.rows
    (c.wake_where.ensures ∙ ap (λ x. woken_by x c.args.links.now (get_or own k 0) c.args.from c.loop-q.next) noted.changed)
