use Rattle.tick_law.specs.PlanView.{opening}
use Rattle.unit_tests.proofs.counted_runs.an_engine_goes_on_from_where_it_stopped.Given as goal

-- the run's plan is the plan that was handed in, and it begins at the opening
abbrev pub ghosts-two_stops-C-Charter : goal.ghosts-two_stops-C-Charter
ghosts-two_stops-C-Charter g a = record { plan = a.plan; start = opening a.plan }

abbrev pub ghosts-two_stops-L-Ledger : goal.ghosts-two_stops-L-Ledger
ghosts-two_stops-L-Ledger g a = record { name = a.blank.name; parts = a.blank.parts }
