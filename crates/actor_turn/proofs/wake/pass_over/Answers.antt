use Rattle.std.proofs.Common.{length, get_or, ap, ◌∙◌, arith, refl}
use Rattle.port_rows.specs.Rows.{RowsView, settled_at}
use Rattle.actor_turn.proofs.WakingLaws.{settled_still}
use Rattle.actor_turn.proofs.wake.pass_over.Goals as goal

pub settle_at-requires : goal.settle_at-requires
settle_at-requires c =
    let own = c.args.own.now in
    let k = c.loop-q.q-index in
    omega (arith, c.requires.within (get_or own k 0) (k, c.loop-q-test.true, refl), ap (λ (v : RowsView). length v.ports) c.loop-q.invariant)

pub loop-q-preserved : goal.loop-q-preserved
loop-q-preserved c =
    let q = get_or c.args.own.now c.loop-q.q-index 0 in
    c.settle_at.ensures.seen
    ∙ ap (λ v. settled_at v q) c.loop-q.invariant
    ∙ settled_still c.args.rows.now q (c.requires.within q (c.loop-q.q-index, c.loop-q-test.true, refl)) c.requires.seen
