use Rattle.std.proofs.Common.{◌<◌, length, ap, subst, sym, ◌∙◌, arith, refl}
use Rattle.std.specs.Prelude.{true}
use Rattle.tick_law.specs.Laws.{Lawful}
use Rattle.actor_turn.specs.declared.side.SideGear.{SideGear}
use Rattle.actor_turn.specs.Turn.{links_in}
use Rattle.due_pass.proofs.InPass.{in_pass_none, next_below, next_can_turn, next_turned, none_next}
use Rattle.due_pass.proofs.StaysLaws.{stays_none, stays_then}
use Rattle.due_pass.proofs.link_pass.pass_marked_links.Given.{Over}
use Rattle.due_pass.proofs.link_pass.pass_marked_links.Goals as goal

lawful : (g : Over) → Lawful g.N.Actor.machine g.N.Actor.valid
lawful g = record { framed = g.met.N.Actor.framed; stays = g.met.N.Actor.stays }

pub loop-no-init : goal.loop-no-init
loop-no-init g c = record {
  within = omega arith;
  passed = in_pass_none g.N.Actor.machine g.N.Actor.valid true c.args.gear.now.links c.args.gear.now.parts c.args.t (links_in c.args.world.now c.args.gear.now c.args.steps.now) c.requires.can;
  stays = stays_none c.args.gear.now;
  parts = refl;
}

pub link_turn-flag-requires-clause-can : goal.link_turn-flag-requires-clause-can
link_turn-flag-requires-clause-can g c =
    let inv = c.loop-no.invariant in
    next_can_turn g.N.Actor.machine g.N.Actor.valid true c.args.gear.now.links c.args.gear.now.parts c.loop-no.gear.links c.loop-no.gear.parts c.args.gear.now.link_due c.loop-no.gear.link_due c.args.t c.loop-no.at c.in-Some.no (links_in c.args.world.now c.args.gear.now c.args.steps.now) (links_in c.loop-no.world c.loop-no.gear c.loop-no.steps) c.loop-no.stirred
    (lawful g) c.requires.can inv.stays.links inv.stays.parts inv.stays.link_due c.requires.due c.requires.marked c.in-Some.ensures.least inv.passed

pub link_turn-flag-requires-clause-wires : goal.link_turn-flag-requires-clause-wires
link_turn-flag-requires-clause-wires g c =
    let inv = c.loop-no.invariant in
    ap (λ (s : SideGear). s.wiring) inv.stays.links ∙ c.requires.wires ∙ sym inv.passed.wires

pub loop-no-preserved : goal.loop-no-preserved
loop-no-preserved g c =
    let inv = c.loop-no.invariant in
    let turn = c.link_turn-flag in
    record {
      within = omega (arith, next_below c.args.gear.now.link_due c.loop-no.gear.link_due c.loop-no.at c.in-Some.no (links_in c.args.world.now c.args.gear.now c.args.steps.now) inv.stays.link_due c.requires.due c.in-Some.ensures.least);
      passed = next_turned g.N.Actor.machine g.N.Actor.valid true c.args.gear.now.links c.args.gear.now.parts c.loop-no.gear.links c.loop-no.gear.parts c.args.gear.now.link_due c.loop-no.gear.link_due c.args.t c.loop-no.at c.in-Some.no (links_in c.args.world.now c.args.gear.now c.args.steps.now) (links_in c.loop-no.world c.loop-no.gear c.loop-no.steps) (links_in turn.new.world turn.new.gear turn.new.steps) c.loop-no.stirred turn.result c.either-stirred.result
          (lawful g) c.requires.can inv.stays.links inv.stays.parts inv.stays.link_due c.requires.due c.requires.marked c.in-Some.ensures.least inv.passed turn.ensures.turned c.either-stirred.ensures;
      stays = stays_then c.args.gear.now c.loop-no.gear turn.new.gear inv.stays turn.ensures.stays;
      parts = turn.ensures.parts ∙ inv.parts;
    }

pub loop-no-smaller : goal.loop-no-smaller
loop-no-smaller g c =
    let inv = c.loop-no.invariant in
    omega (arith, c.in-Some.ensures.least.within, c.in-Some.ensures.least.not_below, ap length inv.stays.link_due)

pub returns-clause-passed : goal.returns-clause-passed
returns-clause-passed g c =
    let inv = c.loop-no.invariant in
    none_next g.N.Actor.machine g.N.Actor.valid true c.args.gear.now.links c.args.gear.now.parts c.args.gear.now.link_due c.loop-no.gear.link_due c.args.t c.loop-no.at (links_in c.args.world.now c.args.gear.now c.args.steps.now) (links_in c.loop-no.world c.loop-no.gear c.loop-no.steps) c.loop-no.stirred
    (lawful g) c.requires.can inv.stays.link_due c.requires.due c.requires.marked inv.within c.in_default.ensures.none inv.passed
