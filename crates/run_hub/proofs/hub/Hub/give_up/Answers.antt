use Rattle.std.proofs.Common.{◌∙◌, ap, subst}
use Rattle.tick_law.specs.PlanView.{system_from}
use Rattle.run_gear.specs.Written.{GotSomeLines}
use Rattle.run_hub.specs.Hub.{HubView}
use Rattle.run_hub.proofs.hub.Hub.give_up.Goals as goal

pub returns-clause-part : goal.returns-clause-part
returns-clause-part g c = λ e.
    let r = system_from g.P.Actor.machine g.N.Actor.machine g.C.Charter.plan g.C.Charter.start in
    subst (λ (v : HubView). GotSomeLines g.C.Charter.plan r g.C.Opening.all v.state.at g.C.Opening.told (g.K.Sink.told c.self.inside.trace.sink)) c.self.view_is
    (c.self.invariant.written.cut (ap (λ (v : HubView). v.state.failed) c.self.view_is ∙ e))
