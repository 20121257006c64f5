use Rattle.std.proofs.Common.{◌≡◌, ◌≤◌, ◌*◌, take, sum_by}
use Rattle.sim_config.specs.Tables.{PartTable}
use Rattle.plan_rules.specs.Kinds.{memory_bytes}
use Rattle.plan_rules.proofs.size_rules.memory_of.Given as goal

abbrev pub invariant-loop-part : goal.invariant-loop-part
invariant-loop-part l = record {
  so_far : l.bytes ≡ sum_by (λ (p : PartTable). memory_bytes p.kind) (take l.part-index l.parts);
  small : l.bytes ≤ 4294967295 * l.part-index;
}
