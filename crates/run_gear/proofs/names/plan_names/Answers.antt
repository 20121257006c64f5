use Rattle.std.proofs.Common.{length, map, ap, ◌∙◌}
use Rattle.run_gear.specs.PlanNames.{port_name}
use Rattle.run_gear.proofs.NameLaws.{have_part}
use Rattle.run_gear.proofs.names.plan_names.Goals as goal

pub open-requires : goal.open-requires
open-requires g c =
    let inv = c.plan.invariant in
    record {
      have_part = have_part c.plan.inside.ports.items c.deref-4.result.now (length c.plan.inside.parts.items) (length c.deref-2.result.now)
          (c.deref-4.ensures.value ∙ c.in_ok-ports.ensures ∙ ap (map port_name) c.deref.ensures.value) (ap length c.deref-2.ensures.value ∙ inv.part_names) inv.part_owned;
    }
