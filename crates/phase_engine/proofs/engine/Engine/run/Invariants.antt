use Rattle.phase_engine.proofs.engine.Engine.run.Given as goal

abbrev pub ghosts-run_due : goal.ghosts-run_due
ghosts-run_due g a = record { name = a.blank.name; parts = a.blank.parts }

abbrev pub ghosts-verdict_of : goal.ghosts-verdict_of
ghosts-verdict_of g a = record { name = a.blank.name; parts = a.blank.parts }
