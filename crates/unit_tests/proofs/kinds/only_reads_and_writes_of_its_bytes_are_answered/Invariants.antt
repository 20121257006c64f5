use Rattle.unit_tests.proofs.kinds.only_reads_and_writes_of_its_bytes_are_answered.Given as goal

abbrev pub ghosts-answer_to : goal.ghosts-answer_to
ghosts-answer_to g a = record { name = a.blank.name; parts = a.blank.parts }
