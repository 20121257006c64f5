use Rattle.std.proofs.Common.{◌≡◌}
use Rattle.actor_turn.specs.Act.{links_acting}
use Rattle.serial_loop.specs.Pass.{GearStays}
use Rattle.serial_loop.proofs.PassLaws.{InPass}
use Rattle.serial_loop.proofs.pass.pass_links.Given as goal

abbrev pub invariant-loop-no : goal.invariant-loop-no
invariant-loop-no g l = record {
  passed : InPass g.N.Actor.machine l.fn.gear.links l.t l.no (links_acting l.fn.world l.fn.gear.recs l.fn.steps) l.fn.next (links_acting l.world l.gear.recs l.steps) l.next l.stirred;
  parts : l.world.parts ≡ l.fn.world.parts;
  stays : GearStays l.fn.gear l.gear;
}
