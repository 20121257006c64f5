use Rattle.std.proofs.Common.{◌+◌, length, set, sym, ◌∙◌, ap, subst, arith}
use Rattle.std.proofs.lemmas.List.{length-set}
use Rattle.port_rows.specs.Rows.{RowsView}
use Rattle.tick_law.specs.Wires.{Has, AllApart, own_of}
use Rattle.event_queue.specs.NextTimes.{time_of}
use Rattle.model_laws.specs.SideTimes.{number_of, timed}
use Rattle.actor_turn.specs.Next.{left_by}
use Rattle.away_rows.specs.declared.body.Body.{Body}
use Rattle.tick_law.specs.PlanView.{system_from}
use Rattle.model_laws.proofs.OneMoreActor.{length-scatter}
use Rattle.away_rows.proofs.SideLaws.{in_below}
use Rattle.hub_floor.proofs.FloorGives.{link_known, parts_wake}
use Rattle.hub_floor.proofs.BackLaws.{link_out_is, link_small, link_seats, link_rows, link_comes_back}
use Rattle.hub_floor.proofs.back.link_back.Goals as goal

pub near-beat-requires-clause-early : goal.near-beat-requires-clause-early
near-beat-requires-clause-early g c = let s = link_small (system_from g.P.Actor.machine g.N.Actor.machine g.C.Charter.plan g.C.Charter.start) g.P.Actor.valid g.N.Actor.valid g.C.Charter.plan.until c.args.floor.now c.requires.floor in omega (arith, s)

pub note_next-requires-clause-there : goal.note_next-requires-clause-there
note_next-requires-clause-there g c =
    let o = c.requires.floor.of.order in
    let x = c.requires.floor.of.fitted.link_count in
    let b = link_out_is (system_from g.P.Actor.machine g.N.Actor.machine g.C.Charter.plan g.C.Charter.start) g.P.Actor.valid g.N.Actor.valid g.C.Charter.plan.until c.args.no c.args.floor.now c.requires.floor c.requires.out in
    omega (arith, o.start, o.then, o.together, x, b)

pub note_next-requires-clause-few : goal.note_next-requires-clause-few
note_next-requires-clause-few g c =
    let o = c.requires.floor.of.order in
    let w = c.requires.floor.of.fitted.few in
    let x = c.requires.floor.of.fitted.part_count in
    let b = link_out_is (system_from g.P.Actor.machine g.N.Actor.machine g.C.Charter.plan g.C.Charter.start) g.P.Actor.valid g.N.Actor.valid g.C.Charter.plan.until c.args.no c.args.floor.now c.requires.floor c.requires.out in
    omega (arith, o.then, w, x, b)

pub note_next-requires-clause-time : goal.note_next-requires-clause-time
note_next-requires-clause-time g c = let s = link_small (system_from g.P.Actor.machine g.N.Actor.machine g.C.Charter.plan g.C.Charter.start) g.P.Actor.valid g.N.Actor.valid g.C.Charter.plan.until c.args.floor.now c.requires.floor in omega (arith, s)

pub link_returns-requires-clause-here : goal.link_returns-requires-clause-here
link_returns-requires-clause-here g c =
    let r = system_from g.P.Actor.machine g.N.Actor.machine g.C.Charter.plan g.C.Charter.start in
    let b = link_out_is (system_from g.P.Actor.machine g.N.Actor.machine g.C.Charter.plan g.C.Charter.start) g.P.Actor.valid g.N.Actor.valid g.C.Charter.plan.until c.args.no c.args.floor.now c.requires.floor c.requires.out in
    let n = link_seats r g.P.Actor.valid g.N.Actor.valid g.C.Charter.plan.until c.args.floor.now c.requires.floor in
    omega (arith, b, n)

pub link_returns-requires-clause-known : goal.link_returns-requires-clause-known
link_returns-requires-clause-known g c =
    let r = system_from g.P.Actor.machine g.N.Actor.machine g.C.Charter.plan g.C.Charter.start in
    link_known r g.P.Actor.valid g.N.Actor.valid g.C.Charter.plan.until c.args.no c.args.floor.now c.requires.floor.of (link_out_is (system_from g.P.Actor.machine g.N.Actor.machine g.C.Charter.plan g.C.Charter.start) g.P.Actor.valid g.N.Actor.valid g.C.Charter.plan.until c.args.no c.args.floor.now c.requires.floor c.requires.out)

pub link_returns-requires-clause-same : goal.link_returns-requires-clause-same
link_returns-requires-clause-same g c = c.requires.done.kit.ports ∙ sym (ap (λ w. length (own_of w c.args.no)) c.requires.floor.of.rows_are)

pub link_returns-requires-clause-seen : goal.link_returns-requires-clause-seen
link_returns-requires-clause-seen g c = c.requires.done.kit.seen ∙ sym (ap (λ w. length (own_of w c.args.no)) c.requires.floor.of.rows_are)

pub wake_parts-requires-clause-link : goal.wake_parts-requires-clause-link
wake_parts-requires-clause-link g c =
    let r = system_from g.P.Actor.machine g.N.Actor.machine g.C.Charter.plan g.C.Charter.start in
    let b = link_known r g.P.Actor.valid g.N.Actor.valid g.C.Charter.plan.until c.args.no c.args.floor.now c.requires.floor.of (link_out_is (system_from g.P.Actor.machine g.N.Actor.machine g.C.Charter.plan g.C.Charter.start) g.P.Actor.valid g.N.Actor.valid g.C.Charter.plan.until c.args.no c.args.floor.now c.requires.floor c.requires.out) in
    let w = ap (λ (x : RowsView). length x.wires.own) c.link_returns.ensures.rows in
    omega (arith, b, w)

pub wake_parts-requires-clause-apart : goal.wake_parts-requires-clause-apart
wake_parts-requires-clause-apart g c = subst (λ l. AllApart l) (sym (ap (λ (x : RowsView). own_of x.wires c.args.no) c.link_returns.ensures.rows ∙ ap (λ w. own_of w c.args.no) c.requires.floor.of.rows_are)) (c.requires.floor.of.fitted.set_up.link_wired.apart c.args.no)

pub wake_parts-requires-clause-within : goal.wake_parts-requires-clause-within
wake_parts-requires-clause-within g c = λ q has.
    let r = system_from g.P.Actor.machine g.N.Actor.machine g.C.Charter.plan g.C.Charter.start in
    let b = c.requires.floor.of.fitted.set_up.link_wired.within c.args.no q (subst (λ l. Has l q) (ap (λ (x : RowsView). own_of x.wires c.args.no) c.link_returns.ensures.rows ∙ ap (λ w. own_of w c.args.no) c.requires.floor.of.rows_are) has) in
    let l = ap (λ (x : RowsView). length x.ports) c.link_returns.ensures.rows ∙ length-scatter c.args.floor.now.rows.ports (own_of c.args.floor.now.rows.wires c.args.no) c.args.body.value.row.ports in
    let n = link_rows r g.P.Actor.valid g.N.Actor.valid g.C.Charter.plan.until c.args.floor.now c.requires.floor in
    omega (arith, b, l, n)

pub wake_parts-requires-clause-wakes : goal.wake_parts-requires-clause-wakes
wake_parts-requires-clause-wakes g c =
    let r = system_from g.P.Actor.machine g.N.Actor.machine g.C.Charter.plan g.C.Charter.start in
    let f = c.args.floor.now in
    parts_wake r g.P.Actor.valid g.N.Actor.valid g.C.Charter.plan.until (length c.link_returns.new.rows.ports) f c.note_next.new.next c.requires.floor.of
    (ap (λ (x : RowsView). length x.ports) c.link_returns.ensures.rows ∙ length-scatter c.args.floor.now.rows.ports (own_of c.args.floor.now.rows.wires c.args.no) c.args.body.value.row.ports ∙ link_rows r g.P.Actor.valid g.N.Actor.valid g.C.Charter.plan.until f c.requires.floor)
    (ap length c.note_next.ensures ∙ length-set f.next _ _)

pub wake_parts-requires-clause-time : goal.wake_parts-requires-clause-time
wake_parts-requires-clause-time g c = let s = link_small (system_from g.P.Actor.machine g.N.Actor.machine g.C.Charter.plan g.C.Charter.start) g.P.Actor.valid g.N.Actor.valid g.C.Charter.plan.until c.args.floor.now c.requires.floor in omega (arith, s)

pub finish-requires-clause-out : goal.finish-requires-clause-out
finish-requires-clause-out g c = in_below c.args.floor.now.link_marks.out c.args.no c.requires.out

pub finish-requires-clause-back : goal.finish-requires-clause-back
finish-requires-clause-back g c =
    let are = c.requires.floor.links.passing.marks_are in
    let b = in_below c.args.floor.now.link_marks.out c.args.no c.requires.out in
    let x = are.out_all in
    let y = are.back_all in
    omega (arith, b, x, y)

pub returns-clause-floor : goal.returns-clause-floor
returns-clause-floor g c =
    let r = system_from g.P.Actor.machine g.N.Actor.machine g.C.Charter.plan g.C.Charter.start in
    (link_comes_back r g.P.Actor.valid g.N.Actor.valid g.C.Charter.plan.until c.args.no c.args.floor.now c.args.body.value c.args.flag c.link_returns.new.seats c.link_returns.new.rows c.wake_parts.new.rows c.note_next.new.next c.wake_parts.new.next c.finish.new.marks c.either-floor.result
    c.requires.floor c.requires.out c.requires.done (c.note_next.ensures ∙ ap (λ (x : Body _). set c.args.floor.now.next (c.args.floor.now.link_side.first + c.args.no) (timed (left_by g.N.Actor.machine c.args.floor.now.at c.args.flag (number_of (time_of c.args.floor.now.next (c.args.floor.now.link_side.first + c.args.no))) x.actor))) c.deref-2.ensures) c.link_returns.ensures.rows c.link_returns.ensures.seats c.wake_parts.ensures c.finish.ensures c.either-floor.ensures).floor

pub returns-clause-event : goal.returns-clause-event
returns-clause-event g c =
    let r = system_from g.P.Actor.machine g.N.Actor.machine g.C.Charter.plan g.C.Charter.start in
    (link_comes_back r g.P.Actor.valid g.N.Actor.valid g.C.Charter.plan.until c.args.no c.args.floor.now c.args.body.value c.args.flag c.link_returns.new.seats c.link_returns.new.rows c.wake_parts.new.rows c.note_next.new.next c.wake_parts.new.next c.finish.new.marks c.either-floor.result
    c.requires.floor c.requires.out c.requires.done (c.note_next.ensures ∙ ap (λ (x : Body _). set c.args.floor.now.next (c.args.floor.now.link_side.first + c.args.no) (timed (left_by g.N.Actor.machine c.args.floor.now.at c.args.flag (number_of (time_of c.args.floor.now.next (c.args.floor.now.link_side.first + c.args.no))) x.actor))) c.deref-2.ensures) c.link_returns.ensures.rows c.link_returns.ensures.seats c.wake_parts.ensures c.finish.ensures c.either-floor.ensures).event_is
