use Rattle.std.proofs.Common.{◌≡◌, sym, ap, ◌∙◌, arith, length, ◌++◌, ◌∷◌, [], Some}
use Rattle.std.specs.Prelude.{slice_get}
use Rattle.sim_config.specs.Tables.{LinkTable, PlanTables}
use Rattle.part_kind.specs.LinkKind.{link_own}
use Rattle.plan_check.proofs.LoopSteps.{links_step, mapped_step}
use Rattle.plan_check.proofs.Places.{some_at}
use Rattle.plan_check.proofs.links.all_links.Goals as goal

pub loop-no-preserved : goal.loop-no-preserved
loop-no-preserved c =
    let tables : c.items-tables.result.now ≡ c.args.plan.now.links = c.items-tables.ensures ∙ ap (λ (t : PlanTables). t.links) (c.text.view_is ∙ c.text-text.ensures.text) in
    let there : slice_get c.items-tables.result.now c.loop-no.no ≡ Some c.index-tables-no.result = some_at c.items-tables.result.now c.loop-no.no c.index-tables-no.result (omega arith) ∙ ap (λ t. Some t) (sym c.index-tables-no.is) in
    let pushed : c.push.new.self.items ≡ c.loop-no.links.items ++ c.in_ok-link_of.field-0 ∷ [] = c.in_ok-push.ensures.items in
    record {
      so_far = links_step c.args.plan.now c.loop-no.no c.index-tables-no.result c.in_ok-link_of.field-0 c.loop-no.links.items c.push.new.self.items (ap (λ xs. slice_get xs c.loop-no.no) (sym tables) ∙ there) c.in_ok-link_of.ensures.link c.loop-no.invariant.so_far pushed;
      own = mapped_step link_own (λ (t : LinkTable). length t.ports) c.loop-no.links.items c.push.new.self.items c.in_ok-link_of.field-0 c.items-tables.result.now c.loop-no.no c.index-tables-no.result c.loop-no.invariant.own pushed c.in_ok-link_of.ensures.own there;
    }
