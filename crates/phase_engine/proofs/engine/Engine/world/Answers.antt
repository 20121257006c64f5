use Rattle.std.proofs.Common.{ap, ◌∙◌}
use Rattle.tick_law.specs.SerialLoop.{world_at}
use Rattle.tick_law.specs.PlanView.{system_from}
use Rattle.phase_engine.specs.Engine.{EngineView}
use Rattle.phase_engine.proofs.EngineLaws.{world_is}
use Rattle.phase_engine.proofs.engine.Engine.world.Goals as goal

pub returns-clause-serial : goal.returns-clause-serial
returns-clause-serial g c =
    let r = system_from g.P.Actor.machine g.N.Actor.machine g.C.Charter.plan g.C.Charter.start in
    world_is g.P.Actor.machine g.N.Actor.machine g.P.Actor.valid g.N.Actor.valid g.C.Charter.plan g.C.Charter.start c.self.inside.run c.self.invariant
    ∙ ap (λ (e : EngineView _ _). world_at r e.at) c.self.view_is
