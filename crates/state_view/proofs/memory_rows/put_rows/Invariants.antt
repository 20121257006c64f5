use Rattle.std.proofs.Common.{◌≡◌, ◌++◌}
use Rattle.state_view.specs.MemoryRows.{first_rows}
use Rattle.state_view.proofs.memory_rows.put_rows.Given as goal

abbrev pub invariant-loop-no : goal.invariant-loop-no
invariant-loop-no l = l.text ≡ l.fn.text ++ first_rows l.name l.addr l.bytes l.no
