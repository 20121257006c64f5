use Rattle.std.proofs.Common.{◌≡◌, length, map, Vec, Global, ap, ◌∙◌}
use Rattle.std.proofs.lemmas.List.{length-map}
use Rattle.sim_base.specs.declared.name.Name.{Name}
use Rattle.sim_base.specs.declared.numbers.PortNo.{PortNo}
use Rattle.engine_rows.proofs.PairPlan.{pair_is_plan}
use Rattle.engine_rows.proofs.pair.pair_plan.Goals as goal

pub invariant_of-result : goal.invariant_of-result
invariant_of-result g c =
    let two_lists : length c.in_ok-fields.fields.items ≡ 2 = ap length c.in_ok-fields.ensures in
    pair_is_plan
    g.P.Actor.machine
    g.N.Actor.machine
    c.in_ok-parts.parts.items
    c.in_ok-links.links.items
    c.in_ok-part_names.part_names.items
    c.in_ok-link_names.link_names.items
    (map (λ (v : Vec Name Global). v.items) c.in_ok-fields.fields.items)
    c.in_ok-ports.ports.items
    (map (λ (v : Vec PortNo Global). map (λ (q : PortNo). q.0) v.items) c.in_ok-own.own.items)
    c.args.first
    c.args.second
    c.args.link
    c.args.name
    c.args.until.0
    c.requires.parts
    c.requires.links
    c.requires.first
    c.requires.second
    c.requires.link
    c.in_ok-parts.ensures
    c.in_ok-links.ensures
    (ap length c.in_ok-part_names.ensures)
    (ap length c.in_ok-link_names.ensures)
    (length-map _ _ ∙ two_lists)
    c.in_ok-ports.ensures
    c.in_ok-own.ensures
    c.requires.early
