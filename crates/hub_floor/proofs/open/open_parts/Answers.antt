use Rattle.std.proofs.Common.{◌≡◌, length, sym, ◌∙◌, subst, arith}
use Rattle.event_queue.specs.Mark.{AllMarked}
use Rattle.tick_law.specs.PlanView.{system_from}
use Rattle.hub_laws.specs.Events.{waiting_in}
use Rattle.hub_floor.proofs.OpenLaws.{rest_waits, rest_seats, parts_marked, parts_are_open, same_sides}
use Rattle.hub_floor.proofs.open.open_parts.Goals as goal

pub move_near-requires : goal.move_near-requires
move_near-requires g c =
    let w = c.requires.within in
    let u = c.requires.floor.of.until_within in
    omega (arith, w, u)

pub move_near-requires-2 : goal.move_near-requires-2
move_near-requires-2 g c =
    let w = c.requires.within in
    let u = c.requires.floor.of.until_within in
    omega (arith, w, u)

pub overflow_cast-parts : goal.overflow_cast-parts
overflow_cast-parts g c =
    let r = system_from g.P.Actor.machine g.N.Actor.machine g.C.Charter.plan g.C.Charter.start in
    let f = c.args.floor.now in
    let n = rest_seats r g.P.Actor.valid g.N.Actor.valid g.C.Charter.plan.until f c.requires.floor in
    let w = c.requires.floor.of.fitted.few in
    omega (arith, n, w, f.parts.ok.0)

pub mark_due-requires : goal.mark_due-requires
mark_due-requires g c =
    let r = system_from g.P.Actor.machine g.N.Actor.machine g.C.Charter.plan g.C.Charter.start in
    let f = c.args.floor.now in
    let n = rest_seats r g.P.Actor.valid g.N.Actor.valid g.C.Charter.plan.until f c.requires.floor in
    let a = rest_waits r g.P.Actor.valid g.N.Actor.valid g.C.Charter.plan.until f c.requires.floor in
    omega (arith, n, a, f.parts.ok.0)

pub wait_asked-alone-requires-clause-asked : goal.wait_asked-alone-requires-clause-asked
wait_asked-alone-requires-clause-asked g c =
    let r = system_from g.P.Actor.machine g.N.Actor.machine g.C.Charter.plan g.C.Charter.start in
    let f = c.args.floor.now in
    let n = rest_seats r g.P.Actor.valid g.N.Actor.valid g.C.Charter.plan.until f c.requires.floor in
    let a = c.requires.floor.of.asked_all in
    omega (arith, n, a, f.parts.ok.0)

pub wait_asked-alone-requires-clause-waiting : goal.wait_asked-alone-requires-clause-waiting
wait_asked-alone-requires-clause-waiting g c =
    let r = system_from g.P.Actor.machine g.N.Actor.machine g.C.Charter.plan g.C.Charter.start in
    let f = c.args.floor.now in
    let n = rest_seats r g.P.Actor.valid g.N.Actor.valid g.C.Charter.plan.until f c.requires.floor in
    let a = rest_waits r g.P.Actor.valid g.N.Actor.valid g.C.Charter.plan.until f c.requires.floor in
    let l = c.mark_due.ensures.long in
    omega (arith, n, a, l, f.parts.ok.0)

pub returns-clause-floor : goal.returns-clause-floor
returns-clause-floor g c =
    let r = system_from g.P.Actor.machine g.N.Actor.machine g.C.Charter.plan g.C.Charter.start in
    let f = c.args.floor.now in
    let until = g.C.Charter.plan.until in
    let n = rest_seats r g.P.Actor.valid g.N.Actor.valid until f c.requires.floor in
    let waits = rest_waits r g.P.Actor.valid g.N.Actor.valid until f c.requires.floor in
    let count : c.len-parts.result ≡ length g.C.Charter.start.world.parts = omega (arith, n, f.parts.ok.0, c.len-parts.ensures) in
    let marks = c.mark_due.ensures in
    let e = c.wait_asked-alone.ensures in
    (parts_are_open r g.P.Actor.valid g.N.Actor.valid until c.args.t c.len-parts.result c.wait_asked-alone.result c.saturating_add-floor.result f _ c.mark_due.new.due c.wait_asked-alone.new.waiting c.wait_asked-alone.new.asked
    c.requires.floor c.requires.least c.requires.within count
    (parts_marked r g.P.Actor.valid g.N.Actor.valid until c.args.t c.len-parts.result f c.mark_due.new.due c.requires.floor.of (marks.long ∙ waits ∙ sym count) count (subst (λ k. AllMarked f.next (record { 0 = c.args.t }) 0 k c.mark_due.new.due) (waits ∙ sym count) marks.marked) marks.only)
    e.waiting e.all e.asked e.count c.saturating_add-floor.ensures
    (same_sides f c.move_near.new.side c.move_near-2.new.side c.args.t c.saturating_add-floor.result c.wait_asked-alone.new.asked (waiting_in f.part_marks c.wait_asked-alone.new.waiting) c.move_near.ensures c.move_near-2.ensures)).floor

pub returns-clause-event : goal.returns-clause-event
returns-clause-event g c =
    let r = system_from g.P.Actor.machine g.N.Actor.machine g.C.Charter.plan g.C.Charter.start in
    let f = c.args.floor.now in
    let until = g.C.Charter.plan.until in
    let n = rest_seats r g.P.Actor.valid g.N.Actor.valid until f c.requires.floor in
    let waits = rest_waits r g.P.Actor.valid g.N.Actor.valid until f c.requires.floor in
    let count : c.len-parts.result ≡ length g.C.Charter.start.world.parts = omega (arith, n, f.parts.ok.0, c.len-parts.ensures) in
    let marks = c.mark_due.ensures in
    let e = c.wait_asked-alone.ensures in
    (parts_are_open r g.P.Actor.valid g.N.Actor.valid until c.args.t c.len-parts.result c.wait_asked-alone.result c.saturating_add-floor.result f _ c.mark_due.new.due c.wait_asked-alone.new.waiting c.wait_asked-alone.new.asked
    c.requires.floor c.requires.least c.requires.within count
    (parts_marked r g.P.Actor.valid g.N.Actor.valid until c.args.t c.len-parts.result f c.mark_due.new.due c.requires.floor.of (marks.long ∙ waits ∙ sym count) count (subst (λ k. AllMarked f.next (record { 0 = c.args.t }) 0 k c.mark_due.new.due) (waits ∙ sym count) marks.marked) marks.only)
    e.waiting e.all e.asked e.count c.saturating_add-floor.ensures
    (same_sides f c.move_near.new.side c.move_near-2.new.side c.args.t c.saturating_add-floor.result c.wait_asked-alone.new.asked (waiting_in f.part_marks c.wait_asked-alone.new.waiting) c.move_near.ensures c.move_near-2.ensures)).event_is
