use Rattle.ring_rows.proofs.tests.a_token_of_two_hops_goes_round_twice.Given as goal

abbrev pub ghosts-run : goal.ghosts-run
ghosts-run g a = record { name = a.blank.name; parts = a.blank.parts }
