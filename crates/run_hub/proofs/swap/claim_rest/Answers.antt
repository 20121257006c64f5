use Rattle.hub_floor.specs.Floor.{hub_state}
use Rattle.run_hub.specs.Swaps.{waiting}
use Rattle.run_hub.proofs.SwapLaws.{share_is}
use Rattle.run_hub.proofs.swap.claim_rest.Goals as goal

pub returns-clause-share : goal.returns-clause-share
returns-clause-share g c =
    (share_is (waiting (hub_state c.args.floor.now)) c.args.workers c.count_waiting-count.result c.share_of-share.result c.requires.some c.count_waiting-count.ensures c.share_of-share.ensures).whole
