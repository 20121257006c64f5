use Rattle.std.proofs.Common.{length, refl, sym, ◌∙◌, ap, subst, arith}
use Rattle.std.specs.Prelude.{slice_get, slice_set}
use Rattle.std.proofs.lemmas.List.{set-get_or}
use Rattle.tick_law.specs.Laws.{Lawful}
use Rattle.model_laws.specs.NextTable.{next_at_place}
use Rattle.actor_turn.specs.Next.{next_seat_of}
use Rattle.actor_turn.specs.declared.side.SideGear.{SideGear}
use Rattle.actor_turn.specs.Act.{parts_acting, CanAct, HasActed}
use Rattle.serial_loop.proofs.PassLaws.{stays_none, in_pass_none, can_act, states_still, in_pass_more, in_pass_all}
use Rattle.serial_loop.proofs.pass.pass_parts.Given.{Over}
use Rattle.serial_loop.proofs.pass.pass_parts.Goals as goal

lawful : (g : Over) → Lawful g.P.Actor.machine g.P.Actor.valid
lawful g = record { framed = g.met.P.Actor.framed; stays = g.met.P.Actor.stays }

pub loop-no-init : goal.loop-no-init
loop-no-init g c = record {
  passed = in_pass_none g.P.Actor.machine c.args.gear.now.parts c.args.t (parts_acting c.args.world.now c.args.gear.now.recs c.args.steps.now) c.args.next.now;
  links = refl;
  stays = stays_none c.args.gear.now;
}

pub index-requires : goal.index-requires
index-requires g c =
    omega (arith, c.loop-no-test.true, states_still g.P.Actor.machine c.args.gear.now.parts c.args.t c.loop-no.no (parts_acting c.args.world.now c.args.gear.now.recs c.args.steps.now) (parts_acting c.loop-no.world c.loop-no.gear.recs c.loop-no.steps) c.args.next.now c.loop-no.next c.loop-no.stirred c.loop-no.invariant.passed)

pub act_part-flag-requires-clause-can : goal.act_part-flag-requires-clause-can
act_part-flag-requires-clause-can g c =
    let inv = c.loop-no.invariant in
    let now = parts_acting c.loop-no.world c.loop-no.gear.recs c.loop-no.steps in
    subst (λ (s : SideGear). CanAct g.P.Actor.machine s c.loop-no.no c.args.t now) (sym inv.stays.parts)
    (can_act g.P.Actor.machine g.P.Actor.valid c.args.gear.now.parts c.args.t c.loop-no.no (parts_acting c.args.world.now c.args.gear.now.recs c.args.steps.now) now c.args.next.now c.loop-no.next c.loop-no.stirred (lawful g) c.requires.can (omega (arith, c.loop-no-test.true)) inv.passed)

pub note_next-requires-clause-here : goal.note_next-requires-clause-here
note_next-requires-clause-here g c =
    omega (arith, c.loop-no-test.true, c.act_part-flag.ensures.acted.all_actors, states_still g.P.Actor.machine c.args.gear.now.parts c.args.t c.loop-no.no (parts_acting c.args.world.now c.args.gear.now.recs c.args.steps.now) (parts_acting c.loop-no.world c.loop-no.gear.recs c.loop-no.steps) c.args.next.now c.loop-no.next c.loop-no.stirred c.loop-no.invariant.passed, ap length c.deref.ensures.value)

pub loop-no-preserved : goal.loop-no-preserved
loop-no-preserved g c =
    let m = g.P.Actor.machine in
    let inv = c.loop-no.invariant in
    let n = c.loop-no.no in
    let act = c.act_part-flag in
    let now = parts_acting c.loop-no.world c.loop-no.gear.recs c.loop-no.steps in
    let new = parts_acting act.new.world act.new.recs act.new.steps in
    let did = subst (λ (s : SideGear). HasActed m s n c.args.t now new act.result) inv.stays.parts act.ensures.acted in
    record {
      passed = in_pass_more m g.P.Actor.valid c.args.gear.now.parts c.args.t n (parts_acting c.args.world.now c.args.gear.now.recs c.args.steps.now) now new c.args.next.now c.loop-no.next c.note_next.new.next c.loop-no.stirred act.result c.either-stirred.result (lawful g) c.requires.can (omega (arith, c.loop-no-test.true)) inv.passed did c.either-stirred.ensures
          (c.note_next.ensures ∙ ap (λ l. slice_set c.loop-no.next n (next_seat_of m c.args.t act.result (next_at_place c.loop-no.next n) (slice_get l n))) c.deref.ensures.value);
      links = act.ensures.links ∙ inv.links;
      stays = record {
        parts = inv.stays.parts;
        links = inv.stays.links;
        hands = ap (slice_set c.loop-no.gear.hands.items (length c.own-ports.result.now)) (act.ensures.hand ∙ c.index_mut-hand.ensures.value) ∙ set-get_or c.loop-no.gear.hands.items (length c.own-ports.result.now) c.index_mut-hand.result.now ∙ inv.stays.hands;
      };
    }

pub returns-clause-passed : goal.returns-clause-passed
returns-clause-passed g c =
    let old = parts_acting c.args.world.now c.args.gear.now.recs c.args.steps.now in
    let now = parts_acting c.loop-no.world c.loop-no.gear.recs c.loop-no.steps in
    in_pass_all g.P.Actor.machine g.P.Actor.valid c.args.gear.now.parts c.args.t c.loop-no.no old now c.args.next.now c.loop-no.next c.loop-no.stirred c.requires.can (omega (arith, c.loop-no-test.false, c.loop-no.auto.no-end)) c.loop-no.invariant.passed
