use Rattle.std.proofs.Common.{◌≡◌, sym, ap, ◌∙◌, map, subst}
use Rattle.sim_config.specs.Tables.{RangeTable}
use Rattle.addr_map.specs.Range.{IsRange}
use Rattle.plan_rules.specs.Text.{range_targets}
use Rattle.plan_check.specs.Maps.{port_to}
use Rattle.plan_check.proofs.Ranges.{range_is_range}
use Rattle.plan_check.proofs.maps.range_of.Goals as goal

pub returns-clause-shape : goal.returns-clause-shape
returns-clause-shape c =
    let table : RangeTable = record { base = c.range.inside.base; size = c.range.inside.size; to = c.range.inside.to; granule = c.range.inside.granule } in
    let to : c.of-to.result ≡ map (port_to c.args.plan.now) (range_targets c.args.plan.now table) = c.of-to.ensures ∙ c.in_ok-ports_to.ensures ∙ ap (map (port_to c.args.plan.now)) (c.requires ∙ ap (range_targets c.args.plan.now) (sym c.range.view_is)) in
    subst (λ t. IsRange (record { base = c.range.inside.base; size = c.range.inside.size; granule = c.range.inside.granule; to = t })) (sym to) (range_is_range c.args.plan.now table c.range.invariant)
