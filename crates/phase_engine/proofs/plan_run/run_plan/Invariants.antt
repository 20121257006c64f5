use Rattle.tick_law.specs.PlanView.{opening}
use Rattle.phase_engine.proofs.plan_run.run_plan.Given as goal

-- the run's plan is the plan that was handed in
abbrev pub ghosts-run_of : goal.ghosts-run_of
ghosts-run_of g a = record { plan = a.plan; start = opening a.plan }
