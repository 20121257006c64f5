use Rattle.std.proofs.Common.{◌≡◌, [], ◌∷◌, length, map, Vec, Global, ap, ◌∙◌}
use Rattle.std.proofs.lemmas.List.{length-map}
use Rattle.sim_base.specs.declared.name.Name.{Name}
use Rattle.sim_base.specs.declared.numbers.PortNo.{PortNo}
use Rattle.ring_rows.proofs.LonePlan.{lone_is_plan}
use Rattle.ring_rows.proofs.lone.lone_plan.Goals as goal

pub invariant_of-result : goal.invariant_of-result
invariant_of-result c =
    let one_list : length c.in_ok-fields.fields.items ≡ 1 = ap length c.in_ok-fields.ensures in
    lone_is_plan
    c.in_ok-parts.parts.items
    c.in_ok-links.links.items
    c.in_ok-part_names.part_names.items
    c.in_ok-link_names.link_names.items
    (map (λ (v : Vec Name Global). v.items) c.in_ok-fields.fields.items)
    c.in_ok-ports.ports.items
    (map (λ (v : Vec PortNo Global). map (λ (q : PortNo). q.0) v.items) c.in_ok-own.own.items)
    c.args.name
    c.args.until.0
    (c.in_ok-parts.ensures ∙ ap (λ p. p ∷ []) c.in_ok-open_relay.ensures)
    (c.in_ok-links.ensures ∙ ap (λ l. l ∷ []) c.in_ok-open_link.ensures)
    (ap length c.in_ok-part_names.ensures)
    (ap length c.in_ok-link_names.ensures)
    (length-map _ _ ∙ one_list)
    c.in_ok-ports.ensures
    c.in_ok-own.ensures
    c.requires
