use Rattle.sim_config.proofs.NameTests.{name_of-read}
use Rattle.sim_config.proofs.values.name_in_bytes.Goals as goal

pub returns : goal.returns
returns c = name_of-read c.args.text.now c.read.result c.read.ensures.shape c.read.ensures.text
