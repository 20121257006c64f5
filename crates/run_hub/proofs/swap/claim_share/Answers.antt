use Rattle.std.proofs.Common.{length}
use Rattle.hub_floor.specs.Floor.{hub_state}
use Rattle.run_hub.proofs.SwapLaws.{got_claims, share_goes}
use Rattle.run_hub.proofs.swap.claim_share.Goals as goal

pub returns-in-Got-clause-claims : goal.returns-in-Got-clause-claims
returns-in-Got-clause-claims g c =
    let parts = length g.C.Charter.start.world.parts in
    let until = g.C.Charter.plan.until in
    let old = hub_state c.args.floor.now in
    let mid = hub_state c.claim_from.new.floor in
    let rest = c.claim_rest.ensures in
    share_goes parts until c.args.workers old mid (hub_state c.claim_rest.new.floor) c.in-Got.task c.args.batch.now c.put.new.self c.claim_rest.new.batch c.claim_rest.result c.requires.no_tasks c.put.ensures
    (got_claims parts until old mid c.claim_from.result c.in-Got.task c.claim_from.ensures.claims c.in-Got.is) rest.takes rest.some rest.share
