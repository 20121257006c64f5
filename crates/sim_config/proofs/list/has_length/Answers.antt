use Rattle.sim_config.proofs.ItemLaws.{item_count-view}
use Rattle.sim_config.proofs.list.has_length.Goals as goal

pub returns-clause-value : goal.returns-clause-value
returns-clause-value c = rw (item_count-view c.args.values.now) c.allows.ensures
