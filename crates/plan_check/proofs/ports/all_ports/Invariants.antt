use Rattle.std.proofs.Common.{◌≡◌}
use Rattle.std.specs.Prelude.{All}
use Rattle.plan_check.specs.Plan.{HasCapacity, ports_to}
use Rattle.plan_check.proofs.ports.all_ports.Given as goal

abbrev pub invariant-loop-no : goal.invariant-loop-no
invariant-loop-no l = record {
  so_far : l.ports.items ≡ ports_to l.plan l.no;
  capacities : All HasCapacity l.ports.items;
}
