use Rattle.std.proofs.Common.{inl, inr, sym, ◌∙◌, ap}
use Rattle.tick_law.specs.PlanView.{system_from}
use Rattle.hub_laws.specs.Events.{flipped}
use Rattle.hub_floor.specs.Floor.{hub_state}
use Rattle.hub_floor.proofs.LeastLaws.{quiet_of, waits_told, opened_for_part, opened_for_link}
use Rattle.hub_floor.proofs.begin.open_time.Goals as goal

pub returns-then-not-are_back-clause-floor : goal.returns-then-not-are_back-clause-floor
returns-then-not-are_back-clause-floor g c = inl c.open_parts.ensures.floor

pub returns-then-not-are_back-clause-event : goal.returns-then-not-are_back-clause-event
returns-then-not-are_back-clause-event g c =
    let r = system_from g.P.Actor.machine g.N.Actor.machine g.C.Charter.plan g.C.Charter.start in
    let told = waits_told r g.P.Actor.valid g.N.Actor.valid g.C.Charter.plan.until c.args.t c.args.floor.now c.open_parts.new.floor c.requires.floor c.open_parts.ensures.event in
    c.open_parts.ensures.event ∙ sym (opened_for_part (hub_state c.args.floor.now) c.args.t (sym told ∙ sym c.are_back.ensures ∙ c.if-not-are_back.true))

pub open_links-requires-clause-quiet : goal.open_links-requires-clause-quiet
open_links-requires-clause-quiet g c = quiet_of c.open_parts.new.floor.part_marks (sym c.are_back.ensures ∙ c.if-not-are_back.false)

pub returns-clause-floor : goal.returns-clause-floor
returns-clause-floor g c = inr c.open_links.ensures.floor

pub returns-clause-event : goal.returns-clause-event
returns-clause-event g c =
    let r = system_from g.P.Actor.machine g.N.Actor.machine g.C.Charter.plan g.C.Charter.start in
    let told = waits_told r g.P.Actor.valid g.N.Actor.valid g.C.Charter.plan.until c.args.t c.args.floor.now c.open_parts.new.floor c.requires.floor c.open_parts.ensures.event in
    c.open_links.ensures.event ∙ ap flipped c.open_parts.ensures.event
    ∙ sym (opened_for_link (hub_state c.args.floor.now) c.args.t (sym told ∙ sym c.are_back.ensures ∙ c.if-not-are_back.false))
