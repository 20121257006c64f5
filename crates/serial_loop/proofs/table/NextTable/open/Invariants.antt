use Rattle.std.proofs.Common.{◌≡◌, replicate}
use Rattle.std.specs.Prelude.{Some}
use Rattle.serial_loop.proofs.table.NextTable.open.Given as goal

abbrev pub invariant-loop : goal.invariant-loop
invariant-loop l = l.times.items ≡ replicate l.counter (Some 0)
