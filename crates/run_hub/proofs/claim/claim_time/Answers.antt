use Rattle.tick_law.specs.PlanView.{system_from}
use Rattle.hub_floor.specs.Floor.{hub_state}
use Rattle.run_hub.proofs.ClaimLaws.{ended_stands, went_end}
use Rattle.run_hub.proofs.OpenClaims.{pass_opened, waits_opened, went_open, then_claims}
use Rattle.run_hub.proofs.claim.claim_time.Goals as goal

pub claim_opened-requires : goal.claim_opened-requires
claim_opened-requires g c =
    let r = system_from g.P.Actor.machine g.N.Actor.machine g.C.Charter.plan g.C.Charter.start in
    record { pass = pass_opened r g.P.Actor.valid g.N.Actor.valid g.C.Charter.plan.until c.args.floor.now c.begin_time.new.floor c.requires.floor c.in-Opened.ensures }

pub returns-in-Opened-clause-claims : goal.returns-in-Opened-clause-claims
returns-in-Opened-clause-claims g c =
    let r = system_from g.P.Actor.machine g.N.Actor.machine g.C.Charter.plan g.C.Charter.start in
    let begun = c.in-Opened.ensures in
    then_claims _ g.C.Charter.plan.until begun.time (hub_state c.args.floor.now) (hub_state c.begin_time.new.floor) (hub_state c.claim_opened.new.floor) c.claim_opened.result begun.may
    (waits_opened r g.P.Actor.valid g.N.Actor.valid g.C.Charter.plan.until begun.time c.args.floor.now c.requires.floor begun.may.least) begun.event c.claim_opened.ensures.claims

pub returns-in-Opened-clause-on : goal.returns-in-Opened-clause-on
returns-in-Opened-clause-on g c =
    let r = system_from g.P.Actor.machine g.N.Actor.machine g.C.Charter.plan g.C.Charter.start in
    went_open r g.P.Actor.valid g.N.Actor.valid g.C.Charter.plan.until c.args.floor.now c.begin_time.new.floor c.claim_opened.new.floor c.requires.floor c.in-Opened.ensures c.claim_opened.ensures.at c.claim_opened.ensures.written

pub returns-in-Over-clause-on : goal.returns-in-Over-clause-on
returns-in-Over-clause-on g c =
    let r = system_from g.P.Actor.machine g.N.Actor.machine g.C.Charter.plan g.C.Charter.start in
    went_end r g.P.Actor.valid g.N.Actor.valid g.C.Charter.plan.until c.args.floor.now c.begin_time.new.floor c.requires.floor c.in-Over.ensures

pub returns-in-Over-clause-stands : goal.returns-in-Over-clause-stands
returns-in-Over-clause-stands g c =
    let r = system_from g.P.Actor.machine g.N.Actor.machine g.C.Charter.plan g.C.Charter.start in
    ended_stands r g.P.Actor.valid g.N.Actor.valid g.C.Charter.plan.until c.args.floor.now c.begin_time.new.floor c.in-Over.ensures
