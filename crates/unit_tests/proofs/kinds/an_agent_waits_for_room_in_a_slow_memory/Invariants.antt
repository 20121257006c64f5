use Rattle.unit_tests.proofs.kinds.an_agent_waits_for_room_in_a_slow_memory.Given as goal

abbrev pub ghosts-run_both : goal.ghosts-run_both
ghosts-run_both g a = record { name = a.blank.name; parts = a.blank.parts }
