use Rattle.std.proofs.Common.{◌≡◌, take, map}
use Rattle.run_gear.proofs.tables.periods.Given as goal

abbrev pub invariant-loop-actor : goal.invariant-loop-actor
invariant-loop-actor g l = l.periods.items ≡ map g.S.Actor.machine.period (take l.actor-index l.actors)
