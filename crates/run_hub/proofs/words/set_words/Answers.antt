use Rattle.std.proofs.Common.{refl}
use Rattle.tick_law.specs.PlanView.{system_from}
use Rattle.run_hub.proofs.ClaimLaws.{went_along}
use Rattle.run_hub.proofs.WordLaws.{stands_worded}
use Rattle.run_hub.proofs.words.set_words.Goals as goal

pub returns-clause-stands : goal.returns-clause-stands
returns-clause-stands g c =
    let r = system_from g.P.Actor.machine g.N.Actor.machine g.C.Charter.plan g.C.Charter.start in
    stands_worded r g.P.Actor.valid g.N.Actor.valid g.C.Charter.plan.until c.args.floor.now c.args.paused c.args.wants c.args.left c.requires

pub returns-clause-on : goal.returns-clause-on
returns-clause-on g c =
    let r = system_from g.P.Actor.machine g.N.Actor.machine g.C.Charter.plan g.C.Charter.start in
    went_along r c.args.floor.now _ refl refl
