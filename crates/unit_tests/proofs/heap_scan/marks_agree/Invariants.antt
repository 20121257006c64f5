use Rattle.std.proofs.Common.{◌≡◌, length}
use Rattle.unit_tests.proofs.heap_scan.marks_agree.Given as goal

abbrev pub invariant-loop-t : goal.invariant-loop-t
invariant-loop-t g l = length l.due ≡ 4
