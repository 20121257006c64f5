use Rattle.run_hub.proofs.hub.Hub.claim.Given as goal

abbrev pub ghosts-claim_with : goal.ghosts-claim_with
ghosts-claim_with g a = record { name = a.blank.name; parts = a.blank.parts }
