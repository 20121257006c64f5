use Rattle.std.proofs.Common.{◌≡◌, map}
use Rattle.sim_base.specs.declared.numbers.PortNo.{PortNo}
use Rattle.plan_check.specs.Plan.{own_to}
use Rattle.plan_check.proofs.ports.own_of_parts.Given as goal

abbrev pub invariant-loop-no : goal.invariant-loop-no
invariant-loop-no l = map (λ w. map (λ (q : PortNo). q.0) w.items) l.own.items ≡ own_to l.plan l.no
