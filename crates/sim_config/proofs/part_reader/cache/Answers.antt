use Rattle.sim_config.proofs.Defaults.{line_default}
use Rattle.sim_config.proofs.part_reader.cache.Goals as goal

pub number-requires : goal.number-requires
number-requires c = line_default
