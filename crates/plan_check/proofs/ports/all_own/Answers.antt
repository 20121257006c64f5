use Rattle.std.proofs.Common.{◌≡◌, sym, ap, ◌∙◌, arith, map, length, ℕ, ◌++◌, ◌∷◌, [], Some, Vec, Global, Option}
use Rattle.std.specs.Prelude.{slice_get, option_map}
use Rattle.std.proofs.lemmas.Option.{slice_get-map}
use Rattle.sim_base.specs.declared.numbers.PortNo.{PortNo}
use Rattle.plan_rules.specs.Text.{link_ports}
use Rattle.plan_check.specs.Plan.{own_to, own_of_link}
use Rattle.plan_check.proofs.LoopSteps.{joined_step}
use Rattle.plan_check.proofs.Places.{some_at}
use Rattle.plan_check.proofs.ports.all_own.Goals as goal

pub loop-ports-preserved : goal.loop-ports-preserved
loop-ports-preserved c =
    let items = λ (w : Vec (Option ℕ) Global). w.items in
    let at : slice_get c.link_ports-ports-items.result.now c.loop-ports.ports-index ≡ Some c.ports-item.result = some_at c.link_ports-ports-items.result.now c.loop-ports.ports-index c.ports-item.result (omega arith) ∙ ap (λ t. Some t) (sym c.ports-item.is) in
    let there : slice_get (link_ports c.args.plan.now) c.loop-ports.ports-index ≡ Some c.ports-item.result.items = ap (λ xs. slice_get xs c.loop-ports.ports-index) (sym c.link_ports-ports-items.ensures) ∙ slice_get-map items c.link_ports-ports-items.result.now c.loop-ports.ports-index ∙ ap (option_map items) at in
    let pushed : c.push.new.self.items ≡ c.loop-ports.own.items ++ c.in_ok-port_list.field-0 ∷ [] = c.in_ok-push.ensures.items in
    joined_step (λ (w : Vec PortNo Global). map (λ (q : PortNo). q.0) w.items) (own_to c.args.plan.now (length c.args.plan.now.parts)) c.loop-ports.own.items c.push.new.self.items c.in_ok-port_list.field-0 (link_ports c.args.plan.now) c.loop-ports.ports-index c.ports-item.result.items
    there (c.in_ok-port_list.ensures.numbers ∙ ap own_of_link c.deref.ensures.value) c.loop-ports.invariant pushed
