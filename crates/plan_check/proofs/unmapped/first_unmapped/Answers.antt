use Rattle.std.proofs.Common.{◌≡◌, ◌+◌, sym, ap, ◌∙◌, arith, drop, length, Some, None}
use Rattle.std.specs.Prelude.{slice_get}
use Rattle.sim_config.specs.Tables.{PlanTables}
use Rattle.plan_check.specs.Programs.{data_ranges, told_or, unmapped_from, unmapped_in}
use Rattle.plan_check.proofs.FirstUnmapped.{from_end, from_here}
use Rattle.plan_check.proofs.Places.{some_at}
use Rattle.plan_check.proofs.unmapped.first_unmapped.Goals as goal

pub returns-in-Some : goal.returns-in-Some
returns-in-Some c =
    let programs : c.items-programs.result.now ≡ c.args.plan.now.programs = c.items-programs.ensures ∙ ap (λ (t : PlanTables). t.programs) (c.text.view_is ∙ c.text-text.ensures.text) in
    let here : slice_get c.args.plan.now.programs c.loop-no.no ≡ Some c.index-programs-no.result = ap (λ ps. slice_get ps c.loop-no.no) (sym programs) ∙ some_at c.items-programs.result.now c.loop-no.no c.index-programs-no.result (omega arith) ∙ ap (λ t. Some t) (sym c.index-programs-no.is) in
    let there : slice_get c.args.images.now c.loop-no.no ≡ Some c.index-images-no.result = some_at c.args.images.now c.loop-no.no c.index-images-no.result (let m = ap length programs in omega (arith, m, c.requires)) ∙ ap (λ t. Some t) (sym c.index-images-no.is) in
    let found : unmapped_in (data_ranges c.args.plan.now c.index-programs-no.result) c.index-images-no.result.segments ≡ Some c.in-Some.at =
    ap (λ r. unmapped_in r c.index-images-no.result.segments) (sym c.data_ranges-ranges.ensures) ∙ ap (unmapped_in c.data_ranges-ranges.result.now) (sym c.items.ensures) ∙ sym c.unmapped_in.ensures ∙ c.in-Some.is in
    sym (from_here c.args.plan.now c.loop-no.no c.args.plan.now.programs c.args.images.now c.index-programs-no.result c.index-images-no.result here there
    ∙ ap (λ o. told_or c.loop-no.no o (unmapped_from c.args.plan.now (c.loop-no.no + 1) (drop (c.loop-no.no + 1) c.args.plan.now.programs) (drop (c.loop-no.no + 1) c.args.images.now))) found)
    ∙ c.loop-no.invariant

pub loop-no-preserved : goal.loop-no-preserved
loop-no-preserved c =
    let programs : c.items-programs.result.now ≡ c.args.plan.now.programs = c.items-programs.ensures ∙ ap (λ (t : PlanTables). t.programs) (c.text.view_is ∙ c.text-text.ensures.text) in
    let here : slice_get c.args.plan.now.programs c.loop-no.no ≡ Some c.index-programs-no.result = ap (λ ps. slice_get ps c.loop-no.no) (sym programs) ∙ some_at c.items-programs.result.now c.loop-no.no c.index-programs-no.result (omega arith) ∙ ap (λ t. Some t) (sym c.index-programs-no.is) in
    let there : slice_get c.args.images.now c.loop-no.no ≡ Some c.index-images-no.result = some_at c.args.images.now c.loop-no.no c.index-images-no.result (let m = ap length programs in omega (arith, m, c.requires)) ∙ ap (λ t. Some t) (sym c.index-images-no.is) in
    let none : unmapped_in (data_ranges c.args.plan.now c.index-programs-no.result) c.index-images-no.result.segments ≡ None =
    ap (λ r. unmapped_in r c.index-images-no.result.segments) (sym c.data_ranges-ranges.ensures) ∙ ap (unmapped_in c.data_ranges-ranges.result.now) (sym c.items.ensures) ∙ sym c.unmapped_in.ensures ∙ c.in_default.is in
    sym (from_here c.args.plan.now c.loop-no.no c.args.plan.now.programs c.args.images.now c.index-programs-no.result c.index-images-no.result here there
    ∙ ap (λ o. told_or c.loop-no.no o (unmapped_from c.args.plan.now (c.loop-no.no + 1) (drop (c.loop-no.no + 1) c.args.plan.now.programs) (drop (c.loop-no.no + 1) c.args.images.now))) none)
    ∙ c.loop-no.invariant

pub returns : goal.returns
returns c =
    let programs : c.items-programs.result.now ≡ c.args.plan.now.programs = c.items-programs.ensures ∙ ap (λ (t : PlanTables). t.programs) (c.text.view_is ∙ c.text-text.ensures.text) in
    sym (from_end c.args.plan.now c.loop-no.no c.args.plan.now.programs c.args.images.now (let m = ap length programs in omega (arith, m, c.loop-no-test.false))) ∙ c.loop-no.invariant
