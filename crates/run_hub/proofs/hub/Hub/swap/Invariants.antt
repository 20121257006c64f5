use Rattle.run_hub.proofs.hub.Hub.swap.Given as goal

abbrev pub ghosts-swap_with : goal.ghosts-swap_with
ghosts-swap_with g a = record { name = a.blank.name; parts = a.blank.parts }
