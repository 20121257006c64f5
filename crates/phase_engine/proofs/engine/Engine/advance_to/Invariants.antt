use Rattle.phase_engine.proofs.engine.Engine.advance_to.Given as goal

abbrev pub ghosts-advance_due : goal.ghosts-advance_due
ghosts-advance_due g a = record { name = a.blank.name; parts = a.blank.parts }
