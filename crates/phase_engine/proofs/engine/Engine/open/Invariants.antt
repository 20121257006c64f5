use Rattle.phase_engine.proofs.engine.Engine.open.Given as goal

abbrev pub ghosts-open_due : goal.ghosts-open_due
ghosts-open_due g a = record { name = a.blank.name; parts = a.blank.parts }
