use Rattle.std.proofs.Common.{◌≡◌, length}
use Rattle.unit_tests.proofs.kinds.run_both.Given as goal

abbrev pub invariant-loop-time : goal.invariant-loop-time
invariant-loop-time g l = (length l.pair.io.ports ≡ 1) × (length l.pair.top.ports ≡ 1)
