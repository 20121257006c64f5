use Rattle.unit_tests.proofs.kinds.the_first_write_has_the_drawn_word.Given as goal

abbrev pub ghosts-first_request : goal.ghosts-first_request
ghosts-first_request g a = record { name = a.blank.name; parts = a.blank.parts }
