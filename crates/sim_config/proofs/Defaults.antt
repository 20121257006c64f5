-- Numbers that stand for a key that is left out are among those that the key has.
use Rattle.std.proofs.Common.{refl, arith}
use lib.Count.{ones}
use Rattle.sim_config.specs.Keys.{IsAllowed, granule, line, misses}

pub granule_default : IsAllowed granule.allowed 64
unfolding ones
granule_default = record { least = omega arith; greatest = omega arith; shape = refl }

pub line_default : IsAllowed line.allowed 64
unfolding ones
line_default = record { least = omega arith; greatest = omega arith; shape = refl }

pub misses_default : IsAllowed misses.allowed 1
unfolding ones
misses_default = record { least = omega arith; greatest = omega arith; shape = tt }
