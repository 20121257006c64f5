use Rattle.unit_tests.proofs.heap_scan.the_heap_answers_as_the_scan_does.Given as goal

abbrev pub ghosts-run : goal.ghosts-run
ghosts-run g a = record { name = a.blank.name; parts = a.blank.parts }
