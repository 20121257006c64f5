use Rattle.run_hub.proofs.swap.+claim_more.Given as goal

abbrev pub decreases-claim_more : goal.decreases-claim_more
decreases-claim_more g l = l.more
