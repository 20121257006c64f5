use Rattle.std.proofs.Common.{◌≡◌}
use Rattle.actor_turn.specs.Act.{parts_acting}
use Rattle.serial_loop.specs.Pass.{GearStays}
use Rattle.serial_loop.proofs.PassLaws.{InPass}
use Rattle.serial_loop.proofs.pass.pass_parts.Given as goal

abbrev pub invariant-loop-no : goal.invariant-loop-no
invariant-loop-no g l = record {
  passed : InPass g.P.Actor.machine l.fn.gear.parts l.t l.no (parts_acting l.fn.world l.fn.gear.recs l.fn.steps) l.fn.next (parts_acting l.world l.gear.recs l.steps) l.next l.stirred;
  links : l.world.links ≡ l.fn.world.links;
  stays : GearStays l.fn.gear l.gear;
}
