use Rattle.std.proofs.Common.{◌≡◌, map, take}
use Rattle.sim_config.specs.Tables.{PartTable}
use Rattle.part_kind.specs.Part.{part_own}
use Rattle.plan_rules.specs.Kinds.{port_count}
use Rattle.plan_check.specs.Plan.{parts_to}
use Rattle.plan_check.proofs.parts.all_parts.Given as goal

abbrev pub invariant-loop-no : goal.invariant-loop-no
invariant-loop-no l = record {
  so_far : l.parts.items ≡ parts_to l.plan l.programs.images.now l.no;
  own : map part_own l.parts.items ≡ map (λ (p : PartTable). port_count p.kind) (take l.no l.tables);
}
