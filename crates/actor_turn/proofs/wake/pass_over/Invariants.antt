use Rattle.std.proofs.Common.{◌≡◌}
use Rattle.actor_turn.proofs.wake.pass_over.Given as goal

abbrev pub invariant-loop-q : goal.invariant-loop-q
invariant-loop-q l = l.rows ≡ l.fn.rows
