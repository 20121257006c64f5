use Rattle.unit_tests.proofs.kinds.a_write_changes_its_bytes_alone.Given as goal

abbrev pub ghosts-answer_to : goal.ghosts-answer_to
ghosts-answer_to g a = record { name = a.blank.name; parts = a.blank.parts }
