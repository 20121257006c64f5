use Rattle.std.proofs.Common.{sym, ◌∙◌, ap, subst, arith}
use Rattle.tick_law.specs.Wires.{AllApart, own_of}
use Rattle.tick_law.specs.PlanView.{system_from}
use Rattle.away_rows.specs.declared.marks.Marks.{Marks}
use Rattle.away_rows.proofs.SideLaws.{in_below}
use Rattle.hub_laws.specs.HubState.{HubState}
use Rattle.hub_floor.specs.Floor.{hub_state}
use Rattle.hub_floor.proofs.FloorGives.{part_known}
use Rattle.hub_floor.proofs.OutLaws.{part_waits, part_sits, part_ports, part_goes_out}
use Rattle.hub_floor.proofs.out.part_out.Goals as goal

pub own-own-requires : goal.own-own-requires
own-own-requires g c =
    let r = system_from g.P.Actor.machine g.N.Actor.machine g.C.Charter.plan g.C.Charter.start in
    let f = c.args.floor.now in
    part_known r g.P.Actor.valid g.N.Actor.valid g.C.Charter.plan.until c.args.no f c.requires.floor.of (part_waits r g.P.Actor.valid g.N.Actor.valid g.C.Charter.plan.until c.args.no f c.requires.floor c.requires.waits)

pub part_leaves-body-requires-clause-here : goal.part_leaves-body-requires-clause-here
part_leaves-body-requires-clause-here g c =
    let r = system_from g.P.Actor.machine g.N.Actor.machine g.C.Charter.plan g.C.Charter.start in
    part_sits r g.P.Actor.valid g.N.Actor.valid g.C.Charter.plan.until c.args.no c.args.floor.now c.own-own.result.now c.requires.floor c.requires.waits
    (c.own-own.ensures ∙ ap (λ w. own_of w c.args.no) c.requires.floor.of.part_wires_are)

pub part_leaves-body-requires-clause-within : goal.part_leaves-body-requires-clause-within
part_leaves-body-requires-clause-within g c =
    let r = system_from g.P.Actor.machine g.N.Actor.machine g.C.Charter.plan g.C.Charter.start in
    part_ports r g.P.Actor.valid g.N.Actor.valid g.C.Charter.plan.until c.args.no c.args.floor.now c.own-own.result.now c.requires.floor
    (c.own-own.ensures ∙ ap (λ w. own_of w c.args.no) c.requires.floor.of.part_wires_are)

pub part_leaves-body-requires-clause-apart : goal.part_leaves-body-requires-clause-apart
part_leaves-body-requires-clause-apart g c =
    subst (λ l. AllApart l) (sym (c.own-own.ensures ∙ ap (λ w. own_of w c.args.no) c.requires.floor.of.part_wires_are)) (c.requires.floor.of.fitted.set_up.part_wired.apart c.args.no)

pub claim-requires-clause-waiting : goal.claim-requires-clause-waiting
claim-requires-clause-waiting g c = in_below c.args.floor.now.part_marks.waiting c.args.no c.requires.waits

pub claim-requires-clause-out : goal.claim-requires-clause-out
claim-requires-clause-out g c =
    let are = c.requires.floor.parts.passing.marks_are in
    let here = in_below c.args.floor.now.part_marks.waiting c.args.no c.requires.waits in
    let a = are.waiting_all in
    let b = are.out_all in
    omega (arith, here, a, b)

pub returns-clause-task : goal.returns-clause-task
returns-clause-task g c =
    let r = system_from g.P.Actor.machine g.N.Actor.machine g.C.Charter.plan g.C.Charter.start in
    let e = c.part_leaves-body.ensures in
    (part_goes_out r g.P.Actor.valid g.N.Actor.valid g.C.Charter.plan.until c.args.no c.args.floor.now c.own-own.result.now c.part_leaves-body.new.seats c.part_leaves-body.new.rows c.claim.new.marks c.part_leaves-body.result.value
    c.requires.floor c.requires.waits (c.own-own.ensures ∙ ap (λ w. own_of w c.args.no) c.requires.floor.of.part_wires_are) e.body e.rows e.seats c.claim.ensures).task

pub returns-clause-floor : goal.returns-clause-floor
returns-clause-floor g c =
    let r = system_from g.P.Actor.machine g.N.Actor.machine g.C.Charter.plan g.C.Charter.start in
    let e = c.part_leaves-body.ensures in
    (part_goes_out r g.P.Actor.valid g.N.Actor.valid g.C.Charter.plan.until c.args.no c.args.floor.now c.own-own.result.now c.part_leaves-body.new.seats c.part_leaves-body.new.rows c.claim.new.marks c.part_leaves-body.result.value
    c.requires.floor c.requires.waits (c.own-own.ensures ∙ ap (λ w. own_of w c.args.no) c.requires.floor.of.part_wires_are) e.body e.rows e.seats c.claim.ensures).floor

pub returns-clause-event : goal.returns-clause-event
returns-clause-event g c = ap (λ (m : Marks). let s : HubState = record (hub_state c.args.floor.now) { part_marks = m } in s) c.claim.ensures
