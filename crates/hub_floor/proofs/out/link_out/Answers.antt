use Rattle.std.proofs.Common.{ap, arith}
use Rattle.tick_law.specs.PlanView.{system_from}
use Rattle.away_rows.specs.declared.marks.Marks.{Marks}
use Rattle.away_rows.proofs.SideLaws.{in_below}
use Rattle.hub_laws.specs.HubState.{HubState}
use Rattle.hub_floor.specs.Floor.{hub_state}
use Rattle.hub_floor.proofs.FloorGives.{link_known}
use Rattle.hub_floor.proofs.OutLaws.{link_waits, link_sits, link_goes_out}
use Rattle.hub_floor.proofs.out.link_out.Goals as goal

pub link_leaves-body-requires-clause-known : goal.link_leaves-body-requires-clause-known
link_leaves-body-requires-clause-known g c =
    let r = system_from g.P.Actor.machine g.N.Actor.machine g.C.Charter.plan g.C.Charter.start in
    let f = c.args.floor.now in
    link_known r g.P.Actor.valid g.N.Actor.valid g.C.Charter.plan.until c.args.no f c.requires.floor.of (link_waits r g.P.Actor.valid g.N.Actor.valid g.C.Charter.plan.until c.args.no f c.requires.floor c.requires.waits)

pub link_leaves-body-requires-clause-here : goal.link_leaves-body-requires-clause-here
link_leaves-body-requires-clause-here g c =
    let r = system_from g.P.Actor.machine g.N.Actor.machine g.C.Charter.plan g.C.Charter.start in
    link_sits r g.P.Actor.valid g.N.Actor.valid g.C.Charter.plan.until c.args.no c.args.floor.now c.requires.floor c.requires.waits

pub claim-requires-clause-waiting : goal.claim-requires-clause-waiting
claim-requires-clause-waiting g c = in_below c.args.floor.now.link_marks.waiting c.args.no c.requires.waits

pub claim-requires-clause-out : goal.claim-requires-clause-out
claim-requires-clause-out g c =
    let are = c.requires.floor.links.passing.marks_are in
    let here = in_below c.args.floor.now.link_marks.waiting c.args.no c.requires.waits in
    let a = are.waiting_all in
    let b = are.out_all in
    omega (arith, here, a, b)

pub returns-clause-task : goal.returns-clause-task
returns-clause-task g c =
    let r = system_from g.P.Actor.machine g.N.Actor.machine g.C.Charter.plan g.C.Charter.start in
    let e = c.link_leaves-body.ensures in
    (link_goes_out r g.P.Actor.valid g.N.Actor.valid g.C.Charter.plan.until c.args.no c.args.floor.now c.link_leaves-body.new.seats c.link_leaves-body.new.rows c.claim.new.marks c.link_leaves-body.result.value
    c.requires.floor c.requires.waits e.body e.rows e.seats c.claim.ensures).task

pub returns-clause-floor : goal.returns-clause-floor
returns-clause-floor g c =
    let r = system_from g.P.Actor.machine g.N.Actor.machine g.C.Charter.plan g.C.Charter.start in
    let e = c.link_leaves-body.ensures in
    (link_goes_out r g.P.Actor.valid g.N.Actor.valid g.C.Charter.plan.until c.args.no c.args.floor.now c.link_leaves-body.new.seats c.link_leaves-body.new.rows c.claim.new.marks c.link_leaves-body.result.value
    c.requires.floor c.requires.waits e.body e.rows e.seats c.claim.ensures).floor

pub returns-clause-event : goal.returns-clause-event
returns-clause-event g c = ap (λ (m : Marks). let s : HubState = record (hub_state c.args.floor.now) { link_marks = m } in s) c.claim.ensures
