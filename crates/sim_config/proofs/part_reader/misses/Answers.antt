use Rattle.sim_config.proofs.Defaults.{misses_default}
use Rattle.sim_config.proofs.part_reader.misses.Goals as goal

pub number-requires : goal.number-requires
number-requires c = misses_default
