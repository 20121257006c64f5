use Rattle.unit_tests.proofs.relay_steps.a_token_is_sent_before_another_is_taken.Given as goal

abbrev pub ghosts-step : goal.ghosts-step
ghosts-step g a = record { name = a.blank.name; parts = a.blank.parts }
