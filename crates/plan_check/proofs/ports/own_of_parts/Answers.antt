use Rattle.std.proofs.Common.{◌≡◌, sym, ap, ◌∙◌, arith, map, ◌++◌, ◌∷◌, [], Some, Vec, Global}
use Rattle.std.specs.Prelude.{slice_get}
use Rattle.sim_base.specs.declared.numbers.PortNo.{PortNo}
use Rattle.sim_config.specs.Tables.{PartTable, PlanTables}
use Rattle.plan_rules.specs.Kinds.{port_count}
use Rattle.plan_rules.specs.Text.{first_port}
use Rattle.plan_check.specs.Plan.{numbers_from}
use Rattle.plan_check.proofs.LoopSteps.{own_step}
use Rattle.plan_check.proofs.Places.{some_at}
use Rattle.plan_check.proofs.ports.own_of_parts.Goals as goal

pub loop-no-preserved : goal.loop-no-preserved
loop-no-preserved c =
    let tables : c.items-parts.result.now ≡ c.args.plan.now.parts = c.items-parts.ensures ∙ ap (λ (t : PlanTables). t.parts) (c.text.view_is ∙ c.text-text.ensures.text) in
    let there : slice_get c.items-parts.result.now c.loop-no.no ≡ Some c.index-parts-no.result = some_at c.items-parts.result.now c.loop-no.no c.index-parts-no.result (omega arith) ∙ ap (λ t. Some t) (sym c.index-parts-no.is) in
    let pushed : c.push.new.self.items ≡ c.loop-no.own.items ++ c.in_ok-numbers_from.field-0 ∷ [] = c.in_ok-push.ensures.items in
    let kind : c.part.inside.kind ≡ c.index-parts-no.result.kind = ap (λ (p : PartTable). p.kind) c.part.view_is in
    let count : c.port_count-count.result ≡ port_count c.index-parts-no.result.kind = c.port_count-count.ensures.count ∙ ap port_count kind in
    own_step (λ (w : Vec PortNo Global). map (λ (q : PortNo). q.0) w.items) c.args.plan.now c.loop-no.no c.index-parts-no.result c.loop-no.own.items c.push.new.self.items c.in_ok-numbers_from.field-0
    (ap (λ xs. slice_get xs c.loop-no.no) (sym tables) ∙ there)
    (c.in_ok-numbers_from.ensures ∙ ap (λ f. numbers_from f c.port_count-count.result) c.first_port.ensures.value ∙ ap (numbers_from (first_port c.args.plan.now c.loop-no.no)) count)
    c.loop-no.invariant pushed
