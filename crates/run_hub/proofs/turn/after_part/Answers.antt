use Rattle.std.proofs.Common.{inl, inr, sym, ◌∙◌, refl}
use Rattle.tick_law.specs.PlanView.{system_from}
use Rattle.hub_floor.proofs.LeastLaws.{quiet_of}
use Rattle.run_hub.specs.GoesOn.{trace_view}
use Rattle.run_hub.proofs.TurnLaws.{then_links}
use Rattle.run_hub.proofs.turn.after_part.Goals as goal

pub returns-then-not-are_back : goal.returns-then-not-are_back
returns-then-not-are_back g c = inl (sym c.are_back.ensures ∙ c.if-not-are_back.true, refl, refl)

pub open_links-requires-clause-quiet : goal.open_links-requires-clause-quiet
open_links-requires-clause-quiet g c = quiet_of c.args.floor.now.part_marks (sym c.are_back.ensures ∙ c.if-not-are_back.false)

pub returns : goal.returns
returns g c =
    let r = system_from g.P.Actor.machine g.N.Actor.machine g.C.Charter.plan g.C.Charter.start in
    inr (
      sym c.are_back.ensures ∙ c.if-not-are_back.false,
      then_links r g.P.Actor.valid g.N.Actor.valid g.C.Charter.plan.until c.args.floor.now c.open_links.new.floor c.after_link.new.floor (trace_view g.K.Sink.told g.K.Sink.faults c.args.trace.now) (trace_view g.K.Sink.told g.K.Sink.faults c.after_link.new.trace)
          c.open_links.ensures.floor c.open_links.ensures.event c.after_link.ensures,
    )
