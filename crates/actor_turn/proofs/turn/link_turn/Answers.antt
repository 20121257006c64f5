use Rattle.std.proofs.Common.{length, subst, sym, ◌∙◌, ap, arith}
use Rattle.std.specs.Prelude.{true}
use Rattle.tick_law.specs.Wires.{own_of, Has, AllApart}
use Rattle.actor_turn.specs.Act.{links_acting}
use Rattle.actor_turn.specs.Turn.{links_in}
use Rattle.actor_turn.proofs.ActLaws.{read_at}
use Rattle.actor_turn.proofs.TurnLaws.{can_act, can_wake_then, turned}
use Rattle.actor_turn.proofs.turn.link_turn.Goals as goal

pub act_link-flag-requires-clause-can : goal.act_link-flag-requires-clause-can
act_link-flag-requires-clause-can g c =
    can_act g.N.Actor.machine c.args.gear.now.links c.args.gear.now.parts c.args.no c.args.t (links_in c.args.world.now c.args.gear.now c.args.steps.now) c.requires.can

pub wake_parts-requires-clause-link : goal.wake_parts-requires-clause-link
wake_parts-requires-clause-link g c = omega (arith, c.requires.can.here, c.requires.can.rows, ap (λ w. length w.own) c.requires.wires, ap (λ w. length w.own) c.act_link-flag.ensures.acted.wires)

pub wake_parts-requires-clause-apart : goal.wake_parts-requires-clause-apart
wake_parts-requires-clause-apart g c = subst (λ w. AllApart (own_of w c.args.no)) (c.requires.wires ∙ sym c.act_link-flag.ensures.acted.wires) (c.requires.can.wired.apart c.args.no)

pub wake_parts-requires-clause-within : goal.wake_parts-requires-clause-within
wake_parts-requires-clause-within g c = λ q h. (
    let is = c.act_link-flag.ensures.acted.wires ∙ sym c.requires.wires in
    omega (arith, c.requires.can.wired.within c.args.no q (subst (λ w. Has (own_of w c.args.no) q) is h), c.act_link-flag.ensures.acted.long))

pub wake_parts-requires-clause-wakes : goal.wake_parts-requires-clause-wakes
wake_parts-requires-clause-wakes g c =
    can_wake_then g.N.Actor.machine c.args.gear.now.links c.args.gear.now.parts c.args.no c.args.t (links_in c.args.world.now c.args.gear.now c.args.steps.now) (length c.act_link-flag.new.world.rows.ports) c.note_next.new.next _ _ c.requires.can c.act_link-flag.ensures.acted.long c.note_next.ensures

pub returns-clause-turned : goal.returns-clause-turned
returns-clause-turned g c =
    let act = c.act_link-flag in
    let did = act.ensures.acted in
    turned g.N.Actor.machine true c.args.gear.now.links c.args.gear.now.parts c.args.no c.args.t (links_in c.args.world.now c.args.gear.now c.args.steps.now) (links_acting act.new.world act.new.recs act.new.steps)
    (own_of act.new.world.rows.wires c.args.no) c.wake_parts.new.rows c.note_next.new.next c.wake_parts.new.next act.result c.index-link.result.now
    c.requires.can did (ap (λ w. own_of w c.args.no) (did.wires ∙ sym c.requires.wires))
    (read_at act.new.world.links.items c.args.no c.index-link.result.now (omega (arith, c.requires.can.here, did.all_actors)) c.index-link.ensures)
    c.note_next.ensures c.wake_parts.ensures
