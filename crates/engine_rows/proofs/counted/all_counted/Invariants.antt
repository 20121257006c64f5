use Rattle.std.proofs.Common.{◌≡◌}
use Rattle.engine_rows.proofs.counted.all_counted.Given as goal

abbrev pub invariant-loop-actor : goal.invariant-loop-actor
invariant-loop-actor g l = l.counted.items ≡ l.yielded
