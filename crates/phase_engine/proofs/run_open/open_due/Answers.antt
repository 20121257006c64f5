use Rattle.std.proofs.Common.{◌+◌, length, ap, subst, sym, ◌∙◌, arith}
use Rattle.tick_law.specs.PlanView.{PlanView}
use Rattle.tick_law.specs.SerialLoop.{Start}
use Rattle.run_gear.specs.IsOpened.{IsOpened}
use Rattle.phase_engine.proofs.OpenLaws.{at_start, gear_start, counted_actors}
use Rattle.phase_engine.proofs.run_open.open_due.Goals as goal

pub returns-clause-run : goal.returns-clause-run
returns-clause-run g c =
    let mp = g.P.Actor.machine in
    let mn = g.N.Actor.machine in
    let vp = g.P.Actor.valid in
    let vn = g.N.Actor.valid in
    let plan = g.C.Charter.plan in
    let start = g.C.Charter.start in
    let o = c.in_ok-world.field-0 in
    let opened : IsOpened mp mn vp vn plan o = subst (λ (p : PlanView _ _). IsOpened mp mn vp vn p o) c.requires.plan c.in_ok-world.ensures in
    let e = c.requires.start in
    let made = c.in_ok-gear.ensures in
    record {
      gear_is = gear_start mp mn vp vn plan start o.world o.gear c.in_ok-gear.gear opened.world_is e opened.gear_is made.parts made.links made.recs made.ready;
      at_is = at_start mp mn vp vn plan start o.world c.in_ok-gear.gear.next opened.world_is e (made.next ∙ counted_actors mp mn vp vn plan o.gear opened.gear_is _ _ c.in_ok-next.ensures (omega arith));
      within = omega arith;
      end_is = sym (ap (λ (s : Start _ _). s.end) e);
      of = record {
        names_are = opened.names_are;
        actors_named = opened.actors_named ∙ sym (ap (λ (s : Start _ _). length s.world.parts + length s.world.links) e);
        until_is = opened.until_is;
        until_within = opened.until_within;
      };
    }
