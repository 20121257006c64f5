use Rattle.std.proofs.Common.{◌<◌, List, [], get_or, length, ap, subst, sym, ◌∙◌, arith, refl}
use Rattle.std.specs.Prelude.{false}
use Rattle.tick_law.specs.Laws.{Lawful}
use Rattle.tick_law.specs.Wires.{own_of}
use Rattle.port_row.specs.Row.{PortsView}
use Rattle.actor_turn.specs.declared.side.SideGear.{SideGear}
use Rattle.actor_turn.specs.Turn.{parts_in}
use Rattle.due_pass.proofs.InPass.{in_pass_none, next_below, next_can_turn, next_turned, none_next}
use Rattle.due_pass.proofs.StaysLaws.{stays_none, stays_then}
use Rattle.due_pass.proofs.part_pass.pass_marked_parts.Given.{Over}
use Rattle.due_pass.proofs.part_pass.pass_marked_parts.Goals as goal

lawful : (g : Over) → Lawful g.P.Actor.machine g.P.Actor.valid
lawful g = record { framed = g.met.P.Actor.framed; stays = g.met.P.Actor.stays }

pub loop-no-init : goal.loop-no-init
loop-no-init g c = record {
  within = omega arith;
  passed = in_pass_none g.P.Actor.machine g.P.Actor.valid false c.args.gear.now.parts c.args.gear.now.links c.args.t (parts_in c.args.world.now c.args.gear.now c.args.steps.now) c.requires.can;
  stays = stays_none c.args.gear.now;
  links = refl;
}

pub part_turn-flag-requires-clause-can : goal.part_turn-flag-requires-clause-can
part_turn-flag-requires-clause-can g c =
    let inv = c.loop-no.invariant in
    next_can_turn g.P.Actor.machine g.P.Actor.valid false c.args.gear.now.parts c.args.gear.now.links c.loop-no.gear.parts c.loop-no.gear.links c.args.gear.now.part_due c.loop-no.gear.part_due c.args.t c.loop-no.at c.in-Some.no (parts_in c.args.world.now c.args.gear.now c.args.steps.now) (parts_in c.loop-no.world c.loop-no.gear c.loop-no.steps) c.loop-no.stirred
    (lawful g) c.requires.can inv.stays.parts inv.stays.links inv.stays.part_due c.requires.due c.requires.marked c.in-Some.ensures.least inv.passed

pub part_turn-flag-requires-clause-hands : goal.part_turn-flag-requires-clause-hands
part_turn-flag-requires-clause-hands g c =
    let inv = c.loop-no.invariant in
    let i = c.in-Some.no in
    let here = c.requires.hands.within i (omega (arith, c.in-Some.ensures.least.within, ap length inv.stays.part_due, c.requires.due)) in
    omega (arith, here, ap length inv.stays.hands, ap (λ (s : SideGear). length (own_of s.wiring i)) inv.stays.parts)

pub part_turn-flag-requires-clause-hand : goal.part_turn-flag-requires-clause-hand
part_turn-flag-requires-clause-hand g c =
    let inv = c.loop-no.invariant in
    let i = c.in-Some.no in
    ap (λ (hs : List PortsView). length (get_or hs (length (own_of c.loop-no.gear.parts.wiring i)) (record { ports = []; seen = [] })).ports) inv.stays.hands
    ∙ ap (λ (s : SideGear). length (get_or c.args.gear.now.hands.items (length (own_of s.wiring i)) (record { ports = []; seen = [] })).ports) inv.stays.parts
    ∙ c.requires.hands.ports i (omega (arith, c.in-Some.ensures.least.within, ap length inv.stays.part_due, c.requires.due))
    ∙ sym (ap (λ (s : SideGear). length (own_of s.wiring i)) inv.stays.parts)

pub loop-no-preserved : goal.loop-no-preserved
loop-no-preserved g c =
    let inv = c.loop-no.invariant in
    let turn = c.part_turn-flag in
    record {
      within = omega (arith, next_below c.args.gear.now.part_due c.loop-no.gear.part_due c.loop-no.at c.in-Some.no (parts_in c.args.world.now c.args.gear.now c.args.steps.now) inv.stays.part_due c.requires.due c.in-Some.ensures.least);
      passed = next_turned g.P.Actor.machine g.P.Actor.valid false c.args.gear.now.parts c.args.gear.now.links c.loop-no.gear.parts c.loop-no.gear.links c.args.gear.now.part_due c.loop-no.gear.part_due c.args.t c.loop-no.at c.in-Some.no (parts_in c.args.world.now c.args.gear.now c.args.steps.now) (parts_in c.loop-no.world c.loop-no.gear c.loop-no.steps) (parts_in turn.new.world turn.new.gear turn.new.steps) c.loop-no.stirred turn.result c.either-stirred.result
          (lawful g) c.requires.can inv.stays.parts inv.stays.links inv.stays.part_due c.requires.due c.requires.marked c.in-Some.ensures.least inv.passed turn.ensures.turned c.either-stirred.ensures;
      stays = stays_then c.args.gear.now c.loop-no.gear turn.new.gear inv.stays turn.ensures.stays;
      links = turn.ensures.links ∙ inv.links;
    }

pub loop-no-smaller : goal.loop-no-smaller
loop-no-smaller g c =
    let inv = c.loop-no.invariant in
    omega (arith, c.in-Some.ensures.least.within, c.in-Some.ensures.least.not_below, ap length inv.stays.part_due)

pub returns-clause-passed : goal.returns-clause-passed
returns-clause-passed g c =
    let inv = c.loop-no.invariant in
    none_next g.P.Actor.machine g.P.Actor.valid false c.args.gear.now.parts c.args.gear.now.links c.args.gear.now.part_due c.loop-no.gear.part_due c.args.t c.loop-no.at (parts_in c.args.world.now c.args.gear.now c.args.steps.now) (parts_in c.loop-no.world c.loop-no.gear c.loop-no.steps) c.loop-no.stirred
    (lawful g) c.requires.can inv.stays.part_due c.requires.due c.requires.marked inv.within c.in_default.ensures.none inv.passed
