use Rattle.std.proofs.Common.{sym, ◌∙◌, ap, length}
use Rattle.tick_law.specs.PlanView.{system_from}
use Rattle.hub_floor.specs.Floor.{hub_state}
use Rattle.run_hub.specs.Batch.{BatchView}
use Rattle.run_hub.specs.GoesOn.{trace_view}
use Rattle.run_hub.proofs.SwapLaws.{finish_more}
use Rattle.run_hub.proofs.swap.+finish_all.Goals as goal

pub returns-clause-finishes : goal.returns-clause-finishes
returns-clause-finishes g t c =
    let r = system_from g.P.Actor.machine g.N.Actor.machine g.C.Charter.plan g.C.Charter.start in
    let one = c.finish_one-strange in
    let rest = c.finish_all-rest in
    finish_more r (length g.C.Charter.start.world.parts) (hub_state c.args.floor.now) (hub_state one.new.floor) (hub_state rest.new.floor)
    (trace_view g.K.Sink.told g.K.Sink.faults c.args.trace.now) (trace_view g.K.Sink.told g.K.Sink.faults one.new.trace) (trace_view g.K.Sink.told g.K.Sink.faults rest.new.trace)
    c.args.batch.now.dones c.take_done.new.self.dones c.in-Some.done one.result rest.result (sym c.take_done.ensures.first ∙ c.in-Some.is) (ap (λ (b : BatchView). b.dones) c.take_done.ensures.rest)
    one.ensures.finish one.ensures.strange rest.ensures.finishes
