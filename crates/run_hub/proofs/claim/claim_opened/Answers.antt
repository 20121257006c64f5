use Rattle.tick_law.specs.PlanView.{system_from}
use Rattle.run_hub.proofs.OpenClaims.{parts_of_pass, links_of_pass}
use Rattle.run_hub.proofs.claim.claim_opened.Goals as goal

pub claim_part-requires : goal.claim_part-requires
claim_part-requires g c =
    let r = system_from g.P.Actor.machine g.N.Actor.machine g.C.Charter.plan g.C.Charter.start in
    record { pass = parts_of_pass r g.P.Actor.valid g.N.Actor.valid g.C.Charter.plan.until c.args.floor.now c.requires.pass c.in-Primary.is }

pub claim_link-requires : goal.claim_link-requires
claim_link-requires g c =
    let r = system_from g.P.Actor.machine g.N.Actor.machine g.C.Charter.plan g.C.Charter.start in
    record { pass = links_of_pass r g.P.Actor.valid g.N.Actor.valid g.C.Charter.plan.until c.args.floor.now c.requires.pass c.in-Secondary.is }
