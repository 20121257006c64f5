use Rattle.std.proofs.Common.{length, arith}
use Rattle.tick_law.specs.PlanView.{system_from}
use Rattle.hub_floor.proofs.OpenLaws.{links_wait, links_sit, links_are_open}
use Rattle.hub_floor.proofs.open.open_links.Goals as goal

pub overflow_cast-end : goal.overflow_cast-end
overflow_cast-end g c =
    let r = system_from g.P.Actor.machine g.N.Actor.machine g.C.Charter.plan g.C.Charter.start in
    let f = c.args.floor.now in
    let n = links_sit r g.P.Actor.valid g.N.Actor.valid g.C.Charter.plan.until f c.requires.floor in
    let w = c.requires.floor.of.fitted.few in
    omega (arith, n, w, f.links.ok.0)

pub overflow_add-end : goal.overflow_add-end
overflow_add-end g c =
    let r = system_from g.P.Actor.machine g.N.Actor.machine g.C.Charter.plan g.C.Charter.start in
    let f = c.args.floor.now in
    let n = links_sit r g.P.Actor.valid g.N.Actor.valid g.C.Charter.plan.until f c.requires.floor in
    let w = c.requires.floor.of.fitted.few in
    let x = c.requires.floor.of.fitted.part_count in
    let t = c.requires.floor.of.order.then in
    omega (arith, n, w, x, t, f.links.ok.0)

pub mark_due-requires : goal.mark_due-requires
mark_due-requires g c =
    let r = system_from g.P.Actor.machine g.N.Actor.machine g.C.Charter.plan g.C.Charter.start in
    let f = c.args.floor.now in
    let n = links_sit r g.P.Actor.valid g.N.Actor.valid g.C.Charter.plan.until f c.requires.floor in
    let a = links_wait r g.P.Actor.valid g.N.Actor.valid g.C.Charter.plan.until f c.requires.floor in
    omega (arith, n, a, f.links.ok.0)

pub returns-clause-floor : goal.returns-clause-floor
returns-clause-floor g c =
    let r = system_from g.P.Actor.machine g.N.Actor.machine g.C.Charter.plan g.C.Charter.start in
    let f = c.args.floor.now in
    let until = g.C.Charter.plan.until in
    let waits = links_wait r g.P.Actor.valid g.N.Actor.valid until f c.requires.floor in
    (links_are_open r g.P.Actor.valid g.N.Actor.valid until (length f.link_marks.waiting) f c.mark_due.new.due c.requires.floor c.requires.quiet waits c.mark_due.ensures.long c.mark_due.ensures.marked c.mark_due.ensures.only).floor

pub returns-clause-event : goal.returns-clause-event
returns-clause-event g c =
    let r = system_from g.P.Actor.machine g.N.Actor.machine g.C.Charter.plan g.C.Charter.start in
    let f = c.args.floor.now in
    let until = g.C.Charter.plan.until in
    let waits = links_wait r g.P.Actor.valid g.N.Actor.valid until f c.requires.floor in
    (links_are_open r g.P.Actor.valid g.N.Actor.valid until (length f.link_marks.waiting) f c.mark_due.new.due c.requires.floor c.requires.quiet waits c.mark_due.ensures.long c.mark_due.ensures.marked c.mark_due.ensures.only).event_is
