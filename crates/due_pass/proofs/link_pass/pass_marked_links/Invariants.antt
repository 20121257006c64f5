use Rattle.std.proofs.Common.{◌≡◌, ◌-◌, ◌≤◌, length}
use Rattle.std.specs.Prelude.{true}
use Rattle.actor_turn.specs.Turn.{GearStays, links_in}
use Rattle.due_pass.proofs.InPass.{InPass}
use Rattle.due_pass.proofs.link_pass.pass_marked_links.Given as goal

abbrev pub invariant-loop-no : goal.invariant-loop-no
invariant-loop-no g l = record {
  within : l.at ≤ length l.fn.world.links.items;
  passed : InPass g.N.Actor.machine true l.fn.gear.links l.fn.gear.parts l.t l.at (links_in l.fn.world l.fn.gear l.fn.steps) (links_in l.world l.gear l.steps) l.stirred;
  stays : GearStays l.fn.gear l.gear;
  parts : l.world.parts ≡ l.fn.world.parts;
}

abbrev pub decreases-loop-no : goal.decreases-loop-no
decreases-loop-no g l = length l.fn.gear.link_due - l.at
