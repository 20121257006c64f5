use Rattle.std.proofs.Common.{◌≡◌, map, take}
use Rattle.sim_config.specs.Tables.{PartTable}
use Rattle.plan_check.proofs.names.part_names.Given as goal

abbrev pub invariant-loop-part : goal.invariant-loop-part
invariant-loop-part l = l.names.items ≡ map (λ (p : PartTable). p.name) (take l.part-index l.parts)
