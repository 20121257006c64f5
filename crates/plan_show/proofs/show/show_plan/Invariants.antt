use Rattle.tick_law.specs.PlanView.{opening}
use Rattle.plan_show.proofs.show.show_plan.Given as goal

-- the run's plan is the plan that was handed in
abbrev pub ghosts-show_by : goal.ghosts-show_by
ghosts-show_by g a = record { plan = a.plan; start = opening a.plan }
