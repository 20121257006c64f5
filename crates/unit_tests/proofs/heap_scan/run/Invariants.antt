use Rattle.std.proofs.Common.{◌≡◌, length}
use Rattle.unit_tests.proofs.heap_scan.run.Given as goal

abbrev pub invariant-loop-sequence : goal.invariant-loop-sequence
invariant-loop-sequence g l = length l.due ≡ 4

abbrev pub invariant-loop-call : goal.invariant-loop-call
invariant-loop-call g l = (length l.next ≡ 7) × (length l.due ≡ 4)
