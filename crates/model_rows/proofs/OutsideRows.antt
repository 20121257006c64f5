-- Counts of faults, computed.
use Rattle.std.proofs.Common.{arith}
use Rattle.model_rows.specs.OutsideRows.{Rising}

pub rising : Rising
rising = record { stays = λ e. omega (arith, e); by_one = omega arith; by_two = omega arith; falls = λ e. omega (arith, e); greatest = omega arith; below_greatest = λ e. omega (arith, e) }
