use Rattle.std.proofs.Common.{ap, subst, ◌∙◌}
use Rattle.port_rows.specs.World.{state_of}
use Rattle.tick_law.specs.SerialLoop.{world_at}
use Rattle.tick_law.specs.PlanView.{system_from}
use Rattle.phase_engine.specs.Asleep.{WhoWaitsIsAsleep}
use Rattle.phase_engine.proofs.EngineLaws.{world_is}
use Rattle.phase_engine.proofs.AsleepLaws.{who_waits}
use Rattle.phase_engine.proofs.engine.Engine.advance_to.Goals as goal

pub returns-clause-world : goal.returns-clause-world
returns-clause-world g c =
    let r = system_from g.P.Actor.machine g.N.Actor.machine g.C.Charter.plan g.C.Charter.start in
    world_is g.P.Actor.machine g.N.Actor.machine g.P.Actor.valid g.N.Actor.valid g.C.Charter.plan g.C.Charter.start c.advance_due.new.run c.advance_due.ensures.run
    ∙ ap (world_at r) c.advance_due.ensures.at

pub returns-clause-asleep : goal.returns-clause-asleep
returns-clause-asleep g c =
    let r = system_from g.P.Actor.machine g.N.Actor.machine g.C.Charter.plan g.C.Charter.start in
    let run = c.advance_due.new.run in
    subst (λ d. WhoWaitsIsAsleep r d (state_of run.world) run.gear.next) c.advance_due.ensures.at
    (who_waits g.P.Actor.machine g.N.Actor.machine g.P.Actor.valid g.N.Actor.valid g.C.Charter.plan g.C.Charter.start run c.advance_due.ensures.run)
