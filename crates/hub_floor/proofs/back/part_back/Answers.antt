use Rattle.std.proofs.Common.{◌+◌, length, set, sym, ◌∙◌, ap, subst, arith}
use Rattle.std.proofs.lemmas.List.{length-set}
use Rattle.port_rows.specs.Rows.{RowsView}
use Rattle.tick_law.specs.Wires.{AllApart, own_of}
use Rattle.event_queue.specs.NextTimes.{time_of}
use Rattle.model_laws.specs.SideTimes.{number_of, timed}
use Rattle.actor_turn.specs.Next.{left_by}
use Rattle.away_rows.specs.declared.body.Body.{Body}
use Rattle.tick_law.specs.PlanView.{system_from}
use Rattle.model_laws.proofs.OneMoreActor.{length-scatter}
use Rattle.away_rows.proofs.SideLaws.{in_below}
use Rattle.hub_floor.proofs.FloorGives.{part_known, links_wake}
use Rattle.hub_floor.proofs.BackLaws.{part_out_is, part_small, part_seats, part_rows, own_ports, part_comes_back}
use Rattle.hub_floor.proofs.back.part_back.Goals as goal

pub near-beat-requires-clause-early : goal.near-beat-requires-clause-early
near-beat-requires-clause-early g c = let s = part_small (system_from g.P.Actor.machine g.N.Actor.machine g.C.Charter.plan g.C.Charter.start) g.P.Actor.valid g.N.Actor.valid g.C.Charter.plan.until c.args.floor.now c.requires.floor in omega (arith, s)

pub note_next-requires-clause-there : goal.note_next-requires-clause-there
note_next-requires-clause-there g c =
    let o = c.requires.floor.of.order in
    let x = c.requires.floor.of.fitted.part_count in
    let b = part_out_is (system_from g.P.Actor.machine g.N.Actor.machine g.C.Charter.plan g.C.Charter.start) g.P.Actor.valid g.N.Actor.valid g.C.Charter.plan.until c.args.no c.args.floor.now c.requires.floor c.requires.out in
    omega (arith, o.start, o.then, o.together, x, b)

pub note_next-requires-clause-few : goal.note_next-requires-clause-few
note_next-requires-clause-few g c =
    let o = c.requires.floor.of.order in
    let w = c.requires.floor.of.fitted.few in
    let b = part_out_is (system_from g.P.Actor.machine g.N.Actor.machine g.C.Charter.plan g.C.Charter.start) g.P.Actor.valid g.N.Actor.valid g.C.Charter.plan.until c.args.no c.args.floor.now c.requires.floor c.requires.out in
    omega (arith, o.start, w, b)

pub note_next-requires-clause-time : goal.note_next-requires-clause-time
note_next-requires-clause-time g c = let s = part_small (system_from g.P.Actor.machine g.N.Actor.machine g.C.Charter.plan g.C.Charter.start) g.P.Actor.valid g.N.Actor.valid g.C.Charter.plan.until c.args.floor.now c.requires.floor in omega (arith, s)

pub own-own-requires : goal.own-own-requires
own-own-requires g c =
    let r = system_from g.P.Actor.machine g.N.Actor.machine g.C.Charter.plan g.C.Charter.start in
    part_known r g.P.Actor.valid g.N.Actor.valid g.C.Charter.plan.until c.args.no c.args.floor.now c.requires.floor.of (part_out_is (system_from g.P.Actor.machine g.N.Actor.machine g.C.Charter.plan g.C.Charter.start) g.P.Actor.valid g.N.Actor.valid g.C.Charter.plan.until c.args.no c.args.floor.now c.requires.floor c.requires.out)

pub part_returns-requires-clause-here : goal.part_returns-requires-clause-here
part_returns-requires-clause-here g c =
    let r = system_from g.P.Actor.machine g.N.Actor.machine g.C.Charter.plan g.C.Charter.start in
    let b = part_out_is (system_from g.P.Actor.machine g.N.Actor.machine g.C.Charter.plan g.C.Charter.start) g.P.Actor.valid g.N.Actor.valid g.C.Charter.plan.until c.args.no c.args.floor.now c.requires.floor c.requires.out in
    let n = part_seats r g.P.Actor.valid g.N.Actor.valid g.C.Charter.plan.until c.args.floor.now c.requires.floor in
    omega (arith, b, n)

pub part_returns-requires-clause-same : goal.part_returns-requires-clause-same
part_returns-requires-clause-same g c = ap length (c.own-own.ensures ∙ ap (λ w. own_of w c.args.no) c.requires.floor.of.part_wires_are) ∙ sym c.requires.done.kit.ports

pub part_returns-requires-clause-within : goal.part_returns-requires-clause-within
part_returns-requires-clause-within g c =
    let r = system_from g.P.Actor.machine g.N.Actor.machine g.C.Charter.plan g.C.Charter.start in
    own_ports r g.P.Actor.valid g.N.Actor.valid g.C.Charter.plan.until c.args.no c.args.floor.now c.own-own.result.now c.requires.floor (c.own-own.ensures ∙ ap (λ w. own_of w c.args.no) c.requires.floor.of.part_wires_are)

pub part_returns-requires-clause-apart : goal.part_returns-requires-clause-apart
part_returns-requires-clause-apart g c =
    subst (λ l. AllApart l) (sym (c.own-own.ensures ∙ ap (λ w. own_of w c.args.no) c.requires.floor.of.part_wires_are)) (c.requires.floor.of.fitted.set_up.part_wired.apart c.args.no)

pub wake_links-requires-clause-apart : goal.wake_links-requires-clause-apart
wake_links-requires-clause-apart g c =
    subst (λ l. AllApart l) (sym (c.own-own.ensures ∙ ap (λ w. own_of w c.args.no) c.requires.floor.of.part_wires_are)) (c.requires.floor.of.fitted.set_up.part_wired.apart c.args.no)

pub wake_links-requires-clause-within : goal.wake_links-requires-clause-within
wake_links-requires-clause-within g c = λ q has.
    let r = system_from g.P.Actor.machine g.N.Actor.machine g.C.Charter.plan g.C.Charter.start in
    let b = own_ports r g.P.Actor.valid g.N.Actor.valid g.C.Charter.plan.until c.args.no c.args.floor.now c.own-own.result.now c.requires.floor (c.own-own.ensures ∙ ap (λ w. own_of w c.args.no) c.requires.floor.of.part_wires_are) q has in
    let l = ap (λ (x : RowsView). length x.ports) c.part_returns.ensures.rows ∙ length-scatter c.args.floor.now.rows.ports c.own-own.result.now c.args.body.value.row.ports in
    omega (arith, b, l)

pub wake_links-requires-clause-wakes : goal.wake_links-requires-clause-wakes
wake_links-requires-clause-wakes g c =
    let r = system_from g.P.Actor.machine g.N.Actor.machine g.C.Charter.plan g.C.Charter.start in
    let f = c.args.floor.now in
    links_wake r g.P.Actor.valid g.N.Actor.valid g.C.Charter.plan.until (length c.part_returns.new.rows.ports) f c.note_next.new.next c.requires.floor.of
    (ap (λ (x : RowsView). length x.ports) c.part_returns.ensures.rows ∙ length-scatter c.args.floor.now.rows.ports c.own-own.result.now c.args.body.value.row.ports ∙ part_rows r g.P.Actor.valid g.N.Actor.valid g.C.Charter.plan.until f c.requires.floor)
    (ap length c.note_next.ensures ∙ length-set f.next _ _)

pub wake_links-requires-clause-time : goal.wake_links-requires-clause-time
wake_links-requires-clause-time g c = let s = part_small (system_from g.P.Actor.machine g.N.Actor.machine g.C.Charter.plan g.C.Charter.start) g.P.Actor.valid g.N.Actor.valid g.C.Charter.plan.until c.args.floor.now c.requires.floor in omega (arith, s)

pub finish-requires-clause-out : goal.finish-requires-clause-out
finish-requires-clause-out g c = in_below c.args.floor.now.part_marks.out c.args.no c.requires.out

pub finish-requires-clause-back : goal.finish-requires-clause-back
finish-requires-clause-back g c =
    let are = c.requires.floor.parts.passing.marks_are in
    let b = in_below c.args.floor.now.part_marks.out c.args.no c.requires.out in
    let x = are.out_all in
    let y = are.back_all in
    omega (arith, b, x, y)

pub returns-clause-floor : goal.returns-clause-floor
returns-clause-floor g c =
    let r = system_from g.P.Actor.machine g.N.Actor.machine g.C.Charter.plan g.C.Charter.start in
    (part_comes_back r g.P.Actor.valid g.N.Actor.valid g.C.Charter.plan.until c.args.no c.args.floor.now c.own-own.result.now c.args.body.value c.args.flag c.part_returns.new.seats c.part_returns.new.rows c.wake_links.new.rows c.note_next.new.next c.wake_links.new.next c.finish.new.marks c.either-floor.result
    c.requires.floor c.requires.out (c.own-own.ensures ∙ ap (λ w. own_of w c.args.no) c.requires.floor.of.part_wires_are) c.requires.done (c.note_next.ensures ∙ ap (λ (x : Body _). set c.args.floor.now.next (c.args.floor.now.part_side.first + c.args.no) (timed (left_by g.P.Actor.machine c.args.floor.now.at c.args.flag (number_of (time_of c.args.floor.now.next (c.args.floor.now.part_side.first + c.args.no))) x.actor))) c.deref-2.ensures) c.part_returns.ensures.rows c.part_returns.ensures.seats c.wake_links.ensures c.finish.ensures c.either-floor.ensures).floor

pub returns-clause-event : goal.returns-clause-event
returns-clause-event g c =
    let r = system_from g.P.Actor.machine g.N.Actor.machine g.C.Charter.plan g.C.Charter.start in
    (part_comes_back r g.P.Actor.valid g.N.Actor.valid g.C.Charter.plan.until c.args.no c.args.floor.now c.own-own.result.now c.args.body.value c.args.flag c.part_returns.new.seats c.part_returns.new.rows c.wake_links.new.rows c.note_next.new.next c.wake_links.new.next c.finish.new.marks c.either-floor.result
    c.requires.floor c.requires.out (c.own-own.ensures ∙ ap (λ w. own_of w c.args.no) c.requires.floor.of.part_wires_are) c.requires.done (c.note_next.ensures ∙ ap (λ (x : Body _). set c.args.floor.now.next (c.args.floor.now.part_side.first + c.args.no) (timed (left_by g.P.Actor.machine c.args.floor.now.at c.args.flag (number_of (time_of c.args.floor.now.next (c.args.floor.now.part_side.first + c.args.no))) x.actor))) c.deref-2.ensures) c.part_returns.ensures.rows c.part_returns.ensures.seats c.wake_links.ensures c.finish.ensures c.either-floor.ensures).event_is
