use Rattle.tick_law.specs.PlanView.{system_from}
use Rattle.run_hub.proofs.RunsEnd.{none_goes_on, some_goes_on}
use Rattle.run_hub.proofs.ending.goes_on.Goals as goal

pub returns-in-Some : goal.returns-in-Some
returns-in-Some g c = λ at.
    let r = system_from g.P.Actor.machine g.N.Actor.machine g.C.Charter.plan g.C.Charter.start in
    some_goes_on r g.P.Actor.valid g.N.Actor.valid g.C.Charter.plan.until c.args.floor.now _ c.requires c.in-Some.ensures at

pub returns-in-None : goal.returns-in-None
returns-in-None g c = λ at.
    let r = system_from g.P.Actor.machine g.N.Actor.machine g.C.Charter.plan g.C.Charter.start in
    none_goes_on r g.P.Actor.valid g.N.Actor.valid g.C.Charter.plan.until c.args.floor.now c.requires c.in-None.ensures at
