use Rattle.std.proofs.Common.{◌≡◌, map}
use Rattle.sim_base.specs.declared.numbers.PortNo.{PortNo}
use Rattle.plan_check.specs.Plan.{numbers_from}
use Rattle.plan_check.proofs.ports.numbers_from.Given as goal

abbrev pub invariant-loop-place : goal.invariant-loop-place
invariant-loop-place l = map (λ (q : PortNo). q.0) l.numbers.items ≡ numbers_from l.first l.place
