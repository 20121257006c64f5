use Rattle.std.proofs.Common.{◌≡◌, map, take}
use Rattle.sim_config.specs.Tables.{PartTable}
use Rattle.plan_check.specs.Fields.{field_names}
use Rattle.plan_check.proofs.fields.all_fields.Given as goal

abbrev pub invariant-loop-part : goal.invariant-loop-part
invariant-loop-part l = map (λ f. f.items) l.fields.items ≡ map (λ (p : PartTable). field_names p.kind) (take l.part-index l.parts)
