use Rattle.std.proofs.Common.{◌≡◌, ◌≤◌, ◌*◌, take, sum_by}
use Rattle.sim_config.specs.Tables.{PartTable}
use Rattle.plan_rules.specs.Kinds.{port_count}
use Rattle.plan_rules.proofs.name_rules.ports_of.Given as goal

abbrev pub invariant-loop-part : goal.invariant-loop-part
invariant-loop-part l = record {
  so_far : l.count ≡ sum_by (λ (p : PartTable). port_count p.kind) (take l.part-index l.parts);
  small : l.count ≤ 2 * l.part-index;
}
