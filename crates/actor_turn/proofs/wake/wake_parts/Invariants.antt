use Rattle.std.proofs.Common.{◌-◌, ◌≤◌, length}
use Rattle.std.specs.Prelude.{true}
use Rattle.tick_law.specs.Wires.{own_of}
use Rattle.actor_turn.specs.Waking.{Waking}
use Rattle.actor_turn.proofs.wake.wake_parts.Given as goal

abbrev pub invariant-loop-k : goal.invariant-loop-k
invariant-loop-k g l =
    let own = own_of l.fn.rows.wires l.link in
    record {
      within : l.at ≤ length own;
      waking : Waking true own l.parts l.from l.fn.rows l.fn.next l.at l.rows l.next;
    }

abbrev pub decreases-loop-k : goal.decreases-loop-k
decreases-loop-k g l = length (own_of l.fn.rows.wires l.link) - l.at
