use Rattle.std.proofs.Common.{ap, ◌∙◌}
use Rattle.tick_law.specs.PlanView.{system_from}
use Rattle.tick_law.specs.SerialLoop.{WorldState}
use Rattle.tick_law.specs.Verdict.{all_done, verdict_by}
use Rattle.run_hub.specs.Ending.{unless}
use Rattle.run_hub.proofs.RunsEnd.{verdict_left}
use Rattle.run_hub.proofs.ending.ending_of.Goals as goal

pub returns-clause-verdict : goal.returns-clause-verdict
returns-clause-verdict g c =
    let r = system_from g.P.Actor.machine g.N.Actor.machine g.C.Charter.plan g.C.Charter.start in
    let f = c.args.floor in
    c.verdict_of-verdict.ensures
    ∙ ap (λ done. unless f.failed (verdict_by c.goes_on-goes_on.result done)) (c.are_done.ensures ∙ ap (all_done g.P.Actor.machine) c.deref.ensures.value)
    ∙ verdict_left r g.P.Actor.valid g.N.Actor.valid g.C.Charter.plan.until f c.goes_on-goes_on.result c.world_of-world.result.parts.items c.requires.over c.goes_on-goes_on.ensures (ap (λ (w : WorldState _ _). w.parts) c.world_of-world.ensures)

pub returns-clause-end : goal.returns-clause-end
returns-clause-end g c = c.requires.over.floor.rest.end_is
