use Rattle.std.proofs.Common.{◌≡◌, sym, ap, ◌∙◌, arith, ◌++◌, ◌∷◌, [], Some, subst}
use Rattle.std.specs.Prelude.{slice_get, All}
use Rattle.std.proofs.lemmas.List.Elements.{All-push}
use Rattle.addr_map.specs.Range.{IsRange}
use Rattle.plan_rules.specs.Text.{ranges_at}
use Rattle.plan_check.specs.Maps.{range_of}
use Rattle.plan_check.proofs.LoopSteps.{copied_step}
use Rattle.plan_check.proofs.Places.{some_at}
use Rattle.plan_check.proofs.maps.ranges_of.Goals as goal

pub loop-place-preserved : goal.loop-place-preserved
loop-place-preserved c =
    let at : slice_get c.ranges-range-items.result.now c.loop-place.place ≡ Some c.range-item.result = some_at c.ranges-range-items.result.now c.loop-place.place c.range-item.result (omega arith) ∙ ap (λ t. Some t) (sym c.range-item.is) in
    let there : slice_get (ranges_at c.args.plan.now c.args.no) c.loop-place.place ≡ Some c.range-item.result = ap (λ xs. slice_get xs c.loop-place.place) (sym c.ranges-range-items.ensures) ∙ at in
    let pushed : c.push.new.self.items ≡ c.loop-place.ranges.items ++ c.in_ok-range_of.field-0 ∷ [] = c.in_ok-push.ensures.items in
    record {
      so_far = copied_step (range_of c.args.plan.now) c.loop-place.ranges.items c.push.new.self.items c.in_ok-range_of.field-0 (ranges_at c.args.plan.now c.args.no) c.loop-place.place c.range-item.result c.loop-place.invariant.so_far pushed c.in_ok-range_of.ensures.range there;
      shape = subst (All IsRange) (sym pushed) (All-push IsRange c.loop-place.ranges.items c.in_ok-range_of.field-0 c.loop-place.invariant.shape c.in_ok-range_of.ensures.shape);
    }
