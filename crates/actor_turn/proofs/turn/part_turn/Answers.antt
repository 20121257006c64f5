use Rattle.std.proofs.Common.{◌≡◌, ℕ, ◌<◌, length, map, subst, sym, ◌∙◌, ap, arith, refl}
use Rattle.std.specs.Prelude.{false, slice_set}
use Rattle.std.proofs.lemmas.List.{set-get_or}
use Rattle.tick_law.specs.Wires.{Has, AllApart}
use Rattle.port_row.specs.Row.{face_of}
use Rattle.actor_turn.specs.Act.{parts_acting}
use Rattle.actor_turn.specs.Waking.{Waking}
use Rattle.actor_turn.proofs.WakingLaws.{waking_still}
use Rattle.actor_turn.specs.Turn.{parts_in}
use Rattle.actor_turn.proofs.ActLaws.{read_at}
use Rattle.actor_turn.proofs.TurnLaws.{can_act, can_wake_then, turned}
use Rattle.actor_turn.proofs.turn.part_turn.Goals as goal

pub act_part-flag-requires-clause-can : goal.act_part-flag-requires-clause-can
act_part-flag-requires-clause-can g c =
    can_act g.P.Actor.machine c.args.gear.now.parts c.args.gear.now.links c.args.no c.args.t (parts_in c.args.world.now c.args.gear.now c.args.steps.now) c.requires.can

pub wake_links-requires-clause-apart : goal.wake_links-requires-clause-apart
wake_links-requires-clause-apart g c = subst (λ l. AllApart l) (sym c.own-own.ensures) (c.requires.can.wired.apart c.args.no)

pub wake_links-requires-clause-within : goal.wake_links-requires-clause-within
wake_links-requires-clause-within g c = λ q h.
    omega (arith, c.requires.can.wired.within c.args.no q (subst (λ l. Has l q) c.own-own.ensures h), c.act_part-flag.ensures.acted.long)

pub wake_links-requires-clause-wakes : goal.wake_links-requires-clause-wakes
wake_links-requires-clause-wakes g c =
    can_wake_then g.P.Actor.machine c.args.gear.now.parts c.args.gear.now.links c.args.no c.args.t (parts_in c.args.world.now c.args.gear.now c.args.steps.now) (length c.act_part-flag.new.world.rows.ports) c.note_next.new.next _ _ c.requires.can c.act_part-flag.ensures.acted.long c.note_next.ensures

pub returns-clause-turned : goal.returns-clause-turned
returns-clause-turned g c =
    let act = c.act_part-flag in
    let did = act.ensures.acted in
    turned g.P.Actor.machine false c.args.gear.now.parts c.args.gear.now.links c.args.no c.args.t (parts_in c.args.world.now c.args.gear.now c.args.steps.now) (parts_acting act.new.world act.new.recs act.new.steps)
    c.own-own.result.now c.wake_links.new.rows c.note_next.new.next c.wake_links.new.next act.result c.index-part.result.now
    c.requires.can did c.own-own.ensures
    (read_at act.new.world.parts.items c.args.no c.index-part.result.now (omega (arith, c.requires.can.here, did.all_actors)) c.index-part.ensures)
    c.note_next.ensures c.wake_links.ensures

pub returns-clause-stays : goal.returns-clause-stays
returns-clause-stays g c = record {
  parts = refl;
  links = refl;
  hands = ap (slice_set c.args.gear.now.hands.items (length c.own-ports.result.now)) (c.act_part-flag.ensures.hand ∙ c.index_mut-hand.ensures.value) ∙ set-get_or c.args.gear.now.hands.items (length c.own-ports.result.now) c.index_mut-hand.result.now;
  part_due = refl;
  link_due = refl;
}

pub pass_over-requires-clause-within : goal.pass_over-requires-clause-within
pass_over-requires-clause-within g c = λ q h.
    omega (arith, c.requires.can.wired.within c.args.no q (subst (λ l. Has l q) c.own-own.ensures h), c.act_part-flag.ensures.acted.long)

pub pass_over-requires-clause-seen : goal.pass_over-requires-clause-seen
pass_over-requires-clause-seen g c =
    let act = c.act_part-flag in
    act.ensures.acted.seen ∙ c.requires.can.settled ∙ sym (ap (map face_of) (act.ensures.still c.if-not-flag.true))

pub returns-then-not-flag-clause-turned : goal.returns-then-not-flag-clause-turned
returns-then-not-flag-clause-turned g c =
    let act = c.act_part-flag in
    let did = act.ensures.acted in
    let own = c.own-own.result.now in
    let links = c.args.gear.now.links in
    let seen : act.new.world.rows.seen ≡ map face_of act.new.world.rows.ports = did.seen ∙ c.requires.can.settled ∙ sym (ap (map face_of) (act.ensures.still c.if-not-flag.true)) in
    let within : (q : ℕ) → Has own q → q < length act.new.world.rows.ports = λ q h. omega (arith, c.requires.can.wired.within c.args.no q (subst (λ l. Has l q) c.own-own.ensures h), did.long) in
    let still = waking_still false own links c.args.t act.new.world.rows c.note_next.new.next (subst (λ l. AllApart l) (sym c.own-own.ensures) (c.requires.can.wired.apart c.args.no)) within seen in
    turned g.P.Actor.machine false c.args.gear.now.parts links c.args.no c.args.t (parts_in c.args.world.now c.args.gear.now c.args.steps.now) (parts_acting act.new.world act.new.recs act.new.steps)
    own c.pass_over.new.rows c.note_next.new.next c.note_next.new.next act.result c.index-part.result.now
    c.requires.can did c.own-own.ensures
    (read_at act.new.world.parts.items c.args.no c.index-part.result.now (omega (arith, c.requires.can.here, did.all_actors)) c.index-part.ensures)
    c.note_next.ensures (subst (λ v. Waking false own links c.args.t act.new.world.rows c.note_next.new.next (length own) v c.note_next.new.next) (sym c.pass_over.ensures) still)

pub returns-then-not-flag-clause-stays : goal.returns-then-not-flag-clause-stays
returns-then-not-flag-clause-stays g c = record {
  parts = refl;
  links = refl;
  hands = ap (slice_set c.args.gear.now.hands.items (length c.own-ports.result.now)) (c.act_part-flag.ensures.hand ∙ c.index_mut-hand.ensures.value) ∙ set-get_or c.args.gear.now.hands.items (length c.own-ports.result.now) c.index_mut-hand.result.now;
  part_due = refl;
  link_due = refl;
}
