use Rattle.std.proofs.Common.{◌≡◌, ◌<◌, length, map, refl, suc, sym, ◌∙◌, ap, subst, arith, add-one}
use Rattle.std.specs.Prelude.{slice_set}
use Rattle.port_row.specs.Row.{face_at, face_of}
use Rattle.port_rows.specs.Rows.{RowsView, are_parts, other_face}
use Rattle.port_rows.proofs.OpeningLaws.{view_of}
use Rattle.tick_law.specs.Pass.{port_at}
use Rattle.actor_turn.specs.Side.{edge_of}
use Rattle.actor_turn.specs.Waking.{shows_other}
use Rattle.model_laws.proofs.WokenByPorts.{Waked, waked_none, waked_all}
use Rattle.model_laws.proofs.TurnByTurn.{wakes_same}
use Rattle.serial_loop.proofs.WakeLaws.{HaveSeen, woke_more, seen_none, seen_more, seen_all}
use Rattle.serial_loop.proofs.wake.wake_changed.Goals as goal

pub loop-port-init : goal.loop-port-init
loop-port-init c = record {
  woke = waked_none c.args.others.now.wiring (shows_other (are_parts c.args.side) c.args.rows.now) (edge_of c.args.others.now c.args.from) c.args.next.now;
  seen = seen_none c.args.rows.now.ports c.args.rows.now.seen;
  ports = refl;
  wires = refl;
}

pub wake_where-requires-clause-wakes : goal.wake_where-requires-clause-wakes
wake_where-requires-clause-wakes c =
    let w = c.args.others.now.wiring in
    wakes_same w (length c.args.rows.now.ports) (length w.owner) c.args.others.now.periods.items c.args.next.now c.loop-port.next c.requires.wakes.owner c.loop-port.invariant.woke.long c.requires.wakes

pub loop-port-preserved : goal.loop-port-preserved
loop-port-preserved c =
    let part = (are_parts c.args.side) in
    let old = c.args.rows.now in
    let w = c.args.others.now.wiring in
    let n = c.loop-port.port in
    let now = c.loop-port.rows in
    let inv = c.loop-port.invariant in
    let edge = edge_of c.args.others.now c.args.from in
    let test = shows_other part old in
    let below : n < length old.ports = omega (arith, c.loop-port-test.true, c.len-port-end.ensures) in
    let tested : c.has_changed-changed.result ≡ test n =
    c.has_changed-changed.ensures
    ∙ ap (λ f. other_face part f (face_of (port_at now.ports n))) (inv.seen.left n (omega arith))
    ∙ ap (λ l. other_face part (face_at old.seen n) (face_of (port_at l n))) inv.ports in
    let next' = c.wake_where.new.next in
    let new = c.settle_at.new.self in
    let woke : Waked w test edge c.args.next.now next' (suc n) = woke_more w (length old.ports) test edge c.args.next.now c.loop-port.next next' n c.has_changed-changed.result c.requires.wakes.wired below (c.requires.wakes.owned n below) tested c.wake_where.ensures inv.woke in
    let seen : HaveSeen old.ports old.seen new.seen (suc n) =
    seen_more old.ports old.seen now.seen new.seen n (omega (arith, below, c.requires.seen)) (ap (λ (v : RowsView). v.seen) c.settle_at.ensures.seen ∙ ap (λ l. slice_set now.seen n (face_of (port_at l n))) inv.ports) inv.seen in
    record {
      woke = subst (λ k. Waked w test edge c.args.next.now next' k) (sym (add-one n)) woke;
      seen = subst (λ k. HaveSeen old.ports old.seen new.seen k) (sym (add-one n)) seen;
      ports = ap (λ (v : RowsView). v.ports) c.settle_at.ensures.seen ∙ inv.ports;
      wires = ap (λ (v : RowsView). v.wires) c.settle_at.ensures.seen ∙ inv.wires;
    }

pub returns-clause-woken : goal.returns-clause-woken
returns-clause-woken c =
    waked_all c.args.others.now.wiring (length c.args.rows.now.ports) (shows_other (are_parts c.args.side) c.args.rows.now) (edge_of c.args.others.now c.args.from) c.args.next.now c.loop-port.next c.loop-port.port c.requires.wakes.wired (omega (arith, c.loop-port-test.false, c.len-port-end.ensures)) c.loop-port.invariant.woke

pub returns-clause-settled : goal.returns-clause-settled
returns-clause-settled c =
    let old = c.args.rows.now in
    let inv = c.loop-port.invariant in
    view_of c.loop-port.rows old.ports (map face_of old.ports) old.wires inv.ports (seen_all old.ports old.seen c.loop-port.rows.seen c.loop-port.port c.requires.seen (omega (arith, c.loop-port-test.false, c.len-port-end.ensures)) inv.seen) inv.wires
