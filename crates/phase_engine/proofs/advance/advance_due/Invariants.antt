use Rattle.std.proofs.Common.{◌≡◌, ◌+◌, ◌-◌, ◌<◌, ◌≤◌}
use Rattle.tick_law.specs.SerialLoop.{end_below}
use Rattle.tick_law.specs.PlanView.{system_from}
use Rattle.tick_law.specs.Verdict.{awake_below}
use Rattle.phase_engine.specs.RunGear.{IsRunGear, IsDueBy, IsAt}
use Rattle.phase_engine.specs.Run.{IsOf}
use Rattle.phase_engine.proofs.advance.advance_due.Given as goal

abbrev pub invariant-loop-t : goal.invariant-loop-t
invariant-loop-t g l =
    let mp = g.P.Actor.machine in
    let mn = g.N.Actor.machine in
    let plan = g.C.Charter.plan in
    let start = g.C.Charter.start in
    let r = system_from mp mn plan start in
    record {
      gear : IsRunGear mp mn g.P.Actor.valid g.N.Actor.valid plan start l.run.world l.run.gear;
      at : IsAt mp mn plan start l.t l.run.world l.run.gear.next;
      of : IsOf plan start l.run;
      within : l.t ≤ l.upto;
      due : l.t < l.upto → IsDueBy l.run.gear.next l.t;
      end : l.run.end ≡ end_below r l.t;
      steps : l.steps + awake_below r l.fn.run.at ≡ l.fn.steps + awake_below r l.t;
    }

abbrev pub decreases-loop-t : goal.decreases-loop-t
decreases-loop-t g l = l.upto - l.t
