use Rattle.unit_tests.proofs.kinds.a_request_is_served_the_latency_after_it_was_taken.Given as goal

abbrev pub ghosts-run_both : goal.ghosts-run_both
ghosts-run_both g a = record { name = a.blank.name; parts = a.blank.parts }
