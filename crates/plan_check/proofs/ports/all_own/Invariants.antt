use Rattle.std.proofs.Common.{◌≡◌, ◌++◌, map, take, length}
use Rattle.sim_base.specs.declared.numbers.PortNo.{PortNo}
use Rattle.plan_rules.specs.Text.{link_ports}
use Rattle.plan_check.specs.Plan.{own_to, own_of_link}
use Rattle.plan_check.proofs.ports.all_own.Given as goal

abbrev pub invariant-loop-ports : goal.invariant-loop-ports
invariant-loop-ports l = map (λ w. map (λ (q : PortNo). q.0) w.items) l.own.items ≡ own_to l.plan (length l.plan.parts) ++ map own_of_link (take l.ports-index (link_ports l.plan))
