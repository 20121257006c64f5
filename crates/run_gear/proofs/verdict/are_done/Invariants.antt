use Rattle.std.proofs.Common.{◌≡◌, take}
use Rattle.tick_law.specs.Verdict.{all_done}
use Rattle.run_gear.proofs.verdict.are_done.Given as goal

abbrev pub invariant-loop-actor : goal.invariant-loop-actor
invariant-loop-actor g l = l.done ≡ all_done g.S.Actor.machine (take l.actor-index l.actors)
