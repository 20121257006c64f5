use Rattle.std.proofs.Common.{◌≡◌, ◌≤◌, sym, ap, ◌∙◌, map, subst, arith}
use Rattle.std.specs.Prelude.{All}
use Rattle.sim_config.specs.Tables.{PartTable, LinkTable, PlanTables}
use Rattle.tick_law.specs.PlanView.{IsPlan}
use Rattle.part_kind.specs.Part.{part, part_own}
use Rattle.part_kind.specs.LinkKind.{link, link_own}
use Rattle.plan_check.specs.Fields.{field_names}
use Rattle.plan_check.specs.Plan.{HasCapacity}
use Rattle.plan_check.proofs.PlanLemmas.{AreCounted, kept, length-ports, plan_is, plan_is_plan}
use Rattle.plan_check.proofs.whole.plan_of.Goals as goal

pub invariant_of-result : goal.invariant_of-result
invariant_of-result c =
    let parts : c.items.result.now ≡ c.args.numbered.now.parts = c.items.ensures ∙ ap (λ (t : PlanTables). t.parts) (c.text.view_is ∙ c.text-text.ensures.text) in
    let links : c.items-2.result.now ≡ c.args.numbered.now.links = c.items-2.ensures ∙ ap (λ (t : PlanTables). t.links) (c.text.view_is ∙ c.text-text.ensures.text) in
    let again : c.items-3.result.now ≡ c.args.numbered.now.parts = c.items-3.ensures ∙ ap (λ (t : PlanTables). t.parts) (c.text.view_is ∙ c.text-text.ensures.text) in
    let until : c.text.inside.until.0 ≡ c.args.numbered.now.until.0 = ap (λ (t : PlanTables). t.until.0) (c.text.view_is ∙ c.text-text.ensures.text) in
    let same = plan_is c.args.numbered.now c.args.images.now _ _ _ _ _ _ _ _ c.in_ok-parts.ensures.parts c.in_ok-links.ensures.links (c.in_ok-part_names.ensures ∙ ap (map (λ (p : PartTable). p.name)) parts) (c.in_ok-link_names.ensures ∙ ap (map (λ (l : LinkTable). l.name)) links) (c.in_ok-fields.ensures ∙ ap (map (λ (p : PartTable). field_names p.kind)) again) c.in_ok-ports.ensures.ports c.in_ok-own.ensures until in
    let counted : AreCounted c.args.numbered.now c.args.images.now = record {
      parts = ap (map part_own) (sym c.in_ok-parts.ensures.parts) ∙ c.in_ok-parts.ensures.own;
      links = ap (map link_own) (sym c.in_ok-links.ensures.links) ∙ c.in_ok-links.ensures.own ∙ length-ports c.args.numbered.now c.args.numbered.now.links;
    } in
    let early : c.args.numbered.now.until.0 ≤ 500000000000 = (let g = c.text.invariant.greatest in omega (arith, until, g)) in
    subst (IsPlan part link) (sym same) (plan_is_plan c.args.numbered.now c.args.images.now counted c.text-text.ensures.few (kept c.args.numbered.now c.requires.kept) early (subst (All HasCapacity) c.in_ok-ports.ensures.ports c.in_ok-ports.ensures.capacities))

pub returns : goal.returns
returns c =
    let parts : c.items.result.now ≡ c.args.numbered.now.parts = c.items.ensures ∙ ap (λ (t : PlanTables). t.parts) (c.text.view_is ∙ c.text-text.ensures.text) in
    let links : c.items-2.result.now ≡ c.args.numbered.now.links = c.items-2.ensures ∙ ap (λ (t : PlanTables). t.links) (c.text.view_is ∙ c.text-text.ensures.text) in
    let again : c.items-3.result.now ≡ c.args.numbered.now.parts = c.items-3.ensures ∙ ap (λ (t : PlanTables). t.parts) (c.text.view_is ∙ c.text-text.ensures.text) in
    let until : c.text.inside.until.0 ≡ c.args.numbered.now.until.0 = ap (λ (t : PlanTables). t.until.0) (c.text.view_is ∙ c.text-text.ensures.text) in
    plan_is c.args.numbered.now c.args.images.now _ _ _ _ _ _ _ _ c.in_ok-parts.ensures.parts c.in_ok-links.ensures.links (c.in_ok-part_names.ensures ∙ ap (map (λ (p : PartTable). p.name)) parts) (c.in_ok-link_names.ensures ∙ ap (map (λ (l : LinkTable). l.name)) links) (c.in_ok-fields.ensures ∙ ap (map (λ (p : PartTable). field_names p.kind)) again) c.in_ok-ports.ensures.ports c.in_ok-own.ensures until
