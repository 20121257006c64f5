use Rattle.std.proofs.Common.{ap, subst, ◌∙◌}
use Rattle.tick_law.specs.SerialLoop.{world_at}
use Rattle.tick_law.specs.PlanView.{system_from}
use Rattle.phase_engine.specs.RunGear.{AreNextTimes}
use Rattle.phase_engine.proofs.EngineLaws.{world_is}
use Rattle.phase_engine.proofs.engine.Engine.open.Goals as goal

pub returns-clause-world : goal.returns-clause-world
returns-clause-world g c =
    let r = system_from g.P.Actor.machine g.N.Actor.machine g.C.Charter.plan g.C.Charter.start in
    world_is g.P.Actor.machine g.N.Actor.machine g.P.Actor.valid g.N.Actor.valid g.C.Charter.plan g.C.Charter.start c.in_ok-run.run' c.in_ok-run.ensures.run
    ∙ ap (world_at r) c.in_ok-run.ensures.boundary

pub returns-clause-times : goal.returns-clause-times
returns-clause-times g c =
    let r = system_from g.P.Actor.machine g.N.Actor.machine g.C.Charter.plan g.C.Charter.start in
    let at = c.in_ok-run.ensures.run.at_is in
    subst (λ d. AreNextTimes r d c.in_ok-run.run'.gear.next) c.in_ok-run.ensures.boundary (record { parts_are = at.parts_are; links_are = at.links_are })
