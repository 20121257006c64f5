use Rattle.std.specs.Prelude.{false}
use Rattle.actor_turn.specs.Waking.{Waking}
use Rattle.actor_turn.proofs.wake.wake_links.Given as goal

abbrev pub invariant-loop-q : goal.invariant-loop-q
invariant-loop-q g l = Waking false l.own l.links l.from l.fn.rows l.fn.next l.q-index l.rows l.next
