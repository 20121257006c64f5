use Rattle.std.proofs.Common.{◌≡◌}
use Rattle.tick_law.specs.Verdict.{exists_to}
use Rattle.model_laws.specs.NextTable.{next_at_place}
use Rattle.serial_loop.proofs.table.any_next.Given as goal

abbrev pub invariant-loop-no : goal.invariant-loop-no
invariant-loop-no l = l.found ≡ exists_to (next_at_place l.next) l.no
