use Rattle.std.proofs.Common.{◌≡◌, sym, ap, ◌∙◌, arith, ◌++◌, ◌∷◌, [], Some}
use Rattle.std.specs.Prelude.{slice_get}
use Rattle.sim_config.specs.Tables.{PartTable, PlanTables}
use Rattle.part_kind.specs.Part.{part_own}
use Rattle.plan_rules.specs.Kinds.{port_count}
use Rattle.plan_check.proofs.LoopSteps.{parts_step, mapped_step}
use Rattle.plan_check.proofs.Places.{some_at}
use Rattle.plan_check.proofs.parts.all_parts.Goals as goal

pub loop-no-preserved : goal.loop-no-preserved
loop-no-preserved c =
    let tables : c.items-tables.result.now ≡ c.args.plan.now.parts = c.items-tables.ensures ∙ ap (λ (t : PlanTables). t.parts) (c.text.view_is ∙ c.text-text.ensures.text) in
    let there : slice_get c.items-tables.result.now c.loop-no.no ≡ Some c.index-tables-no.result = some_at c.items-tables.result.now c.loop-no.no c.index-tables-no.result (omega arith) ∙ ap (λ t. Some t) (sym c.index-tables-no.is) in
    let pushed : c.push.new.self.items ≡ c.loop-no.parts.items ++ c.in_ok-part_of.field-0 ∷ [] = c.in_ok-push.ensures.items in
    record {
      so_far = parts_step c.args.plan.now c.args.programs.now.images.now c.loop-no.no c.index-tables-no.result c.in_ok-part_of.field-0 c.loop-no.parts.items c.push.new.self.items (ap (λ xs. slice_get xs c.loop-no.no) (sym tables) ∙ there) c.in_ok-part_of.ensures.part c.loop-no.invariant.so_far pushed;
      own = mapped_step part_own (λ (p : PartTable). port_count p.kind) c.loop-no.parts.items c.push.new.self.items c.in_ok-part_of.field-0 c.items-tables.result.now c.loop-no.no c.index-tables-no.result c.loop-no.invariant.own pushed c.in_ok-part_of.ensures.own there;
    }
