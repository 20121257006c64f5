use Rattle.std.proofs.Common.{◌≡◌, ◌++◌, drop}
use Rattle.std.specs.Prelude.{All}
use Rattle.plan_check.specs.Plan.{HasCapacity, port_plans}
use Rattle.plan_rules.specs.Kinds.{port_words}
use Rattle.plan_check.proofs.ports.add_ports.Given as goal

-- the ports so far and those of the words from here on are all
abbrev pub invariant-loop-place : goal.invariant-loop-place
invariant-loop-place l = record {
  so_far : l.ports.items ++ port_plans l.plan l.no l.buffer l.place (drop l.place (port_words l.part.kind)) ≡ l.initial.ports.items ++ port_plans l.plan l.no l.buffer 0 (port_words l.part.kind);
  capacities : All HasCapacity l.ports.items;
}
