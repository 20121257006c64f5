use Rattle.std.proofs.Common.{◌≡◌, ◌+◌, ◌≤◌, length, sym, ◌∙◌, ap, arith, add-one}
use Rattle.sim_base.specs.declared.time.TheConstants.{LATEST_TIME}
use Rattle.tick_law.specs.PlanView.{system_from}
use Rattle.tick_law.specs.Verdict.{awake_now, awake_below}
use Rattle.phase_engine.specs.RunGear.{places_of}
use Rattle.phase_engine.proofs.RunLaws.{is_due, to_due, end_then}
use Rattle.phase_engine.proofs.advance.advance_due.Goals as goal

pub loop-t-init : goal.loop-t-init
loop-t-init g c =
    let start = g.C.Charter.start in
    let r = system_from g.P.Actor.machine g.N.Actor.machine g.C.Charter.plan start in
    let is = c.requires.run in
    let run = c.args.run.now in
    let due = c.next_due-t in
    let last : due.result ≤ LATEST_TIME + 1 = (let u = is.of.until_within in omega (arith, due.ensures.within, c.requires.within, u)) in
    let reached = to_due r g.P.Actor.valid g.N.Actor.valid run.at due.result (places_of run.world) run.gear.next 0 (length start.world.parts) (length start.world.links) is.gear_is.fitted.set_up due.ensures.from last due.ensures.none is.at_is in
    record {
      gear = is.gear_is;
      at = reached.boundary;
      of = is.of;
      within = due.ensures.within;
      due = λ l. is_due run.gear.next due.result c.args.upto l due.ensures.due;
      end = is.end_is ∙ sym reached.ending;
      steps = (let e = reached.steps in omega (arith, e));
    }

pub loop-t-preserved : goal.loop-t-preserved
loop-t-preserved g c =
    let start = g.C.Charter.start in
    let r = system_from g.P.Actor.machine g.N.Actor.machine g.C.Charter.plan start in
    let inv = c.loop-t.invariant in
    let t = c.loop-t.t in
    let now = c.one_time-stirred.new in
    let due = c.next_due-t-in-loop-t in
    let last : due.result ≤ LATEST_TIME + 1 = (let u = c.requires.run.of.until_within in omega (arith, due.ensures.within, c.requires.within, u)) in
    let reached = to_due r g.P.Actor.valid g.N.Actor.valid (t + 1) due.result (places_of now.world) now.gear.next 0 (length start.world.parts) (length start.world.links) inv.gear.fitted.set_up due.ensures.from last due.ensures.none c.one_time-stirred.ensures.at in
    let end = end_then r t c.loop-t.run.end c.later-run.result c.one_time-stirred.result c.later-run.ensures c.one_time-stirred.ensures.flag inv.end in
    let z : awake_below r (t + 1) ≡ awake_below r t + awake_now r t = ap (λ x. awake_below r x) (add-one t) in
    record {
      gear = c.one_time-stirred.ensures.gear;
      at = reached.boundary;
      of = record { names_are = inv.of.names_are; actors_named = inv.of.actors_named; until_is = inv.of.until_is; until_within = inv.of.until_within };
      within = due.ensures.within;
      due = λ l. is_due now.gear.next due.result c.args.upto l due.ensures.due;
      end = end ∙ sym reached.ending;
      steps = (let e = reached.steps in omega (arith, e, z, inv.steps, c.one_time-stirred.ensures.steps));
    }
