use Rattle.std.proofs.Common.{◌≡◌, map, take}
use Rattle.std.specs.Prelude.{unwrap_or}
use Rattle.sim_base.specs.declared.numbers.PortNo.{PortNo}
use Rattle.plan_check.specs.Plan.{own_of_link}
use Rattle.plan_check.proofs.links.port_list.Given as goal

abbrev pub invariant-loop-port : goal.invariant-loop-port
invariant-loop-port l = record {
  so_far : l.list.items ≡ map (λ port. record { 0 = unwrap_or port 0 }) (take l.port-index l.ports);
  numbers : map (λ (q : PortNo). q.0) l.list.items ≡ own_of_link (take l.port-index l.ports);
}
