use Rattle.std.proofs.Common.{sym, ◌∙◌}
use Rattle.tick_law.specs.PlanView.{system_from}
use Rattle.hub_floor.proofs.CloseLaws.{parts_back_long, links_back_long, part_here, link_here, time_is_closed}
use Rattle.hub_floor.proofs.close.close_time.Goals as goal

pub forget-requires-clause-here : goal.forget-requires-clause-here
forget-requires-clause-here g c =
    let r = system_from g.P.Actor.machine g.N.Actor.machine g.C.Charter.plan g.C.Charter.start in
    part_here r g.P.Actor.valid g.N.Actor.valid g.C.Charter.plan.until c.args.floor.now c.requires.floor

pub forget-requires-clause-long : goal.forget-requires-clause-long
forget-requires-clause-long g c =
    let r = system_from g.P.Actor.machine g.N.Actor.machine g.C.Charter.plan g.C.Charter.start in
    parts_back_long r g.P.Actor.valid g.N.Actor.valid g.C.Charter.plan.until c.args.floor.now c.requires.floor

pub forget-requires-2-clause-here : goal.forget-requires-2-clause-here
forget-requires-2-clause-here g c =
    let r = system_from g.P.Actor.machine g.N.Actor.machine g.C.Charter.plan g.C.Charter.start in
    link_here r g.P.Actor.valid g.N.Actor.valid g.C.Charter.plan.until c.args.floor.now c.requires.floor c.requires.quiet

pub forget-requires-2-clause-long : goal.forget-requires-2-clause-long
forget-requires-2-clause-long g c =
    let r = system_from g.P.Actor.machine g.N.Actor.machine g.C.Charter.plan g.C.Charter.start in
    links_back_long r g.P.Actor.valid g.N.Actor.valid g.C.Charter.plan.until c.args.floor.now c.requires.floor

pub unmark-requires-clause-out : goal.unmark-requires-clause-out
unmark-requires-clause-out g c = let m = c.requires.floor.links.parts_marked in m.out_all ∙ sym m.waiting_all

pub unmark-requires-clause-back : goal.unmark-requires-clause-back
unmark-requires-clause-back g c = let m = c.requires.floor.links.parts_marked in m.back_all ∙ sym m.waiting_all

pub unmark-requires-2-clause-out : goal.unmark-requires-2-clause-out
unmark-requires-2-clause-out g c = let m = c.requires.floor.links.passing.marks_are in m.out_all ∙ sym m.waiting_all

pub unmark-requires-2-clause-back : goal.unmark-requires-2-clause-back
unmark-requires-2-clause-back g c = let m = c.requires.floor.links.passing.marks_are in m.back_all ∙ sym m.waiting_all

pub returns-clause-floor : goal.returns-clause-floor
returns-clause-floor g c =
    let r = system_from g.P.Actor.machine g.N.Actor.machine g.C.Charter.plan g.C.Charter.start in
    (time_is_closed r g.P.Actor.valid g.N.Actor.valid g.C.Charter.plan.until c.args.failed c.args.floor.now c.forget.new.seats c.forget-2.new.seats c.unmark.new.marks c.unmark-2.new.marks c.last_of-floor.result
    c.requires.floor c.requires.quiet c.forget.ensures c.forget-2.ensures c.unmark.ensures c.unmark-2.ensures c.last_of-floor.ensures).floor

pub returns-clause-event : goal.returns-clause-event
returns-clause-event g c =
    let r = system_from g.P.Actor.machine g.N.Actor.machine g.C.Charter.plan g.C.Charter.start in
    (time_is_closed r g.P.Actor.valid g.N.Actor.valid g.C.Charter.plan.until c.args.failed c.args.floor.now c.forget.new.seats c.forget-2.new.seats c.unmark.new.marks c.unmark-2.new.marks c.last_of-floor.result
    c.requires.floor c.requires.quiet c.forget.ensures c.forget-2.ensures c.unmark.ensures c.unmark-2.ensures c.last_of-floor.ensures).event_is
