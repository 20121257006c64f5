use Rattle.std.proofs.Common.{◌+◌, ap, ◌∙◌}
use Rattle.tick_law.specs.Verdict.{awake_now}
use Rattle.actor_turn.specs.declared.gear.RowGear.{RowGear}
use Rattle.due_pass.specs.Time.{run_of}
use Rattle.phase_engine.proofs.GearLaws.{same_run}
use Rattle.phase_engine.proofs.one_time.one_time.Goals as goal

pub returns-clause-steps : goal.returns-clause-steps
returns-clause-steps g c =
    let mp = g.P.Actor.machine in
    let mn = g.N.Actor.machine in
    let same = same_run mp mn g.P.Actor.valid g.N.Actor.valid g.C.Charter.plan g.C.Charter.start c.args.world.now c.args.gear.now c.requires.gear in
    c.due_time.ensures.steps
    ∙ ap (λ (h : RowGear). c.args.steps.now + awake_now (run_of mp mn h.parts h.links g.C.Charter.start) c.args.t) c.begin.ensures
    ∙ ap (λ r. c.args.steps.now + awake_now r c.args.t) same
