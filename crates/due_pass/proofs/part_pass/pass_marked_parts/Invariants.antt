use Rattle.std.proofs.Common.{◌≡◌, ◌-◌, ◌≤◌, length}
use Rattle.std.specs.Prelude.{false}
use Rattle.actor_turn.specs.Turn.{GearStays, parts_in}
use Rattle.due_pass.proofs.InPass.{InPass}
use Rattle.due_pass.proofs.part_pass.pass_marked_parts.Given as goal

abbrev pub invariant-loop-no : goal.invariant-loop-no
invariant-loop-no g l = record {
  within : l.at ≤ length l.fn.world.parts.items;
  passed : InPass g.P.Actor.machine false l.fn.gear.parts l.fn.gear.links l.t l.at (parts_in l.fn.world l.fn.gear l.fn.steps) (parts_in l.world l.gear l.steps) l.stirred;
  stays : GearStays l.fn.gear l.gear;
  links : l.world.links ≡ l.fn.world.links;
}

abbrev pub decreases-loop-no : goal.decreases-loop-no
decreases-loop-no g l = length l.fn.gear.part_due - l.at
