use Rattle.std.proofs.Common.{◌≡◌, take, sym, ◌∙◌, ap, add-one}
use Rattle.std.specs.Prelude.{◌&&◌}
use Rattle.tick_law.specs.Verdict.{all_done}
use Rattle.run_gear.proofs.DoneLaws.{done_more}
use Rattle.run_gear.proofs.verdict.are_done.Goals as goal

pub loop-actor-preserved : goal.loop-actor-preserved
loop-actor-preserved g c =
    let m = g.S.Actor.machine in
    let xs = c.args.actors.now in
    let k = c.loop-actor.actor-index in
    c.both-done.ensures
    ∙ ap (λ b. b && c.done.result) c.loop-actor.invariant
    ∙ ap (λ b. all_done m (take k xs) && b) (c.done.ensures ∙ ap m.done c.actor-item.is)
    ∙ sym (done_more m xs k c.actor-item.result c.loop-actor-test.true)
    ∙ ap (λ n. all_done m (take n xs)) (sym (add-one k))
