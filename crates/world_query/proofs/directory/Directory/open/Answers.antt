use Rattle.std.proofs.Common.{◌≡◌, ◌<◌, ap, sym, ◌∙◌, length, map, arith}
use Rattle.tick_law.specs.PlanView.{PlanView}
use Rattle.world_query.specs.Directory.{number_of, number_in}
use Rattle.world_query.proofs.NumberLaws.{number_of-within}
use Rattle.world_query.proofs.TableLaws.{number_of-map, length-map}
use Rattle.world_query.proofs.directory.Directory.open.Goals as goal

pub invariant_of-result : goal.invariant_of-result
invariant_of-result g c = λ text k found.
    let names = c.plan.inside.part_names.items in
    let tables : number_in c.in_ok-parts.parts ≡ number_of names = c.in_ok-parts.ensures ∙ ap number_of c.deref.ensures.value in
    let within : k < length names = number_of-within names text k (sym (ap (λ f. f text) tables) ∙ found) in
    let fields : length c.in_ok-fields.fields.items ≡ length c.plan.inside.fields.items = c.in_ok-fields.ensures.long ∙ ap length c.deref-2.ensures.value in
    let all : length c.plan.inside.fields.items ≡ length c.plan.inside.parts.items = sym (length-map (λ names. names.items) c.plan.inside.fields.items) ∙ c.plan.invariant.fields in
    omega (arith, within, fields, all, c.plan.invariant.part_names)

pub returns : goal.returns
returns g c = record {
  parts = c.in_ok-parts.ensures ∙ ap number_of (c.deref.ensures.value ∙ ap (λ (p : PlanView _ _). p.part_names) c.plan.view_is);
  fields = c.in_ok-fields.ensures.tables ∙ number_of-map c.deref-2.result.now ∙ ap (λ fields. map number_of (map (λ names. names.items) fields)) c.deref-2.ensures.value ∙ ap (λ (p : PlanView _ _). map number_of p.fields) c.plan.view_is;
}
