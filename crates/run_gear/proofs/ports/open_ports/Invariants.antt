use Rattle.std.proofs.Common.{◌≡◌, [], take, map}
use Rattle.port_msg.specs.PortView.{port_view}
use Rattle.tick_law.specs.declared.port_plan.PortPlan.{PortPlan}
use Rattle.run_gear.proofs.ports.open_ports.Given as goal

abbrev pub invariant-loop-plan : goal.invariant-loop-plan
invariant-loop-plan l = l.ports.items ≡ map (λ (p : PortPlan). port_view [] [] p.cap) (take l.plan-index l.plans)
