use Rattle.sim_config.proofs.Defaults.{granule_default}
use Rattle.sim_config.proofs.map_reader.range.Goals as goal

pub number-requires-3 : goal.number-requires-3
number-requires-3 c = granule_default
