use Rattle.std.proofs.Common.{inl, inr, sym, ◌∙◌, refl}
use Rattle.tick_law.specs.PlanView.{system_from}
use Rattle.hub_floor.specs.Floor.{hub_state}
use Rattle.hub_floor.proofs.LeastLaws.{quiet_of}
use Rattle.run_hub.specs.GoesOn.{trace_view}
use Rattle.run_hub.proofs.TurnLaws.{time_closed}
use Rattle.run_hub.proofs.turn.after_link.Goals as goal

pub returns-then-not-are_back : goal.returns-then-not-are_back
returns-then-not-are_back g c = inl (sym c.are_back.ensures ∙ c.if-not-are_back.true, refl, refl)

pub count_time-requires-clause-quiet : goal.count_time-requires-clause-quiet
count_time-requires-clause-quiet g c = quiet_of c.args.floor.now.link_marks (sym c.are_back.ensures ∙ c.if-not-are_back.false)

pub write_time-written-requires-clause-quiet : goal.write_time-written-requires-clause-quiet
write_time-written-requires-clause-quiet g c = quiet_of c.args.floor.now.link_marks (sym c.are_back.ensures ∙ c.if-not-are_back.false)

pub close_time-requires-clause-quiet : goal.close_time-requires-clause-quiet
close_time-requires-clause-quiet g c = quiet_of c.args.floor.now.link_marks (sym c.are_back.ensures ∙ c.if-not-are_back.false)

pub returns : goal.returns
returns g c =
    let r = system_from g.P.Actor.machine g.N.Actor.machine g.C.Charter.plan g.C.Charter.start in
    let w = c.write_time-written.ensures in
    inr (
      sym c.are_back.ensures ∙ c.if-not-are_back.false,
      time_closed r g.P.Actor.valid g.N.Actor.valid g.C.Charter.plan.until c.args.floor.now.at (hub_state c.args.floor.now) c.close_time.new.floor (trace_view g.K.Sink.told g.K.Sink.faults c.args.trace.now) (trace_view g.K.Sink.told g.K.Sink.faults c.write_time-written.new.trace) c.write_time-written.result
          c.close_time.ensures.floor c.close_time.ensures.event w.whole w.fault w.some w.part (w.stats ∙ c.count_time.ensures) (record { names = w.names; all = w.all; never_falls = w.never_falls; telling = w.telling }),
    )
