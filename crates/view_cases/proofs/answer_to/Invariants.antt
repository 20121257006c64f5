use Rattle.view_cases.proofs.answer_to.Given as goal

abbrev pub ghosts-shown : goal.ghosts-shown
ghosts-shown a = record { name = a.blank.name; parts = a.blank.parts }
