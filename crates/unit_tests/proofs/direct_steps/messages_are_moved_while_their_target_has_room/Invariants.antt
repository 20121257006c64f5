use Rattle.unit_tests.proofs.direct_steps.messages_are_moved_while_their_target_has_room.Given as goal

abbrev pub ghosts-step : goal.ghosts-step
ghosts-step g a = record { name = a.blank.name; parts = a.blank.parts }
