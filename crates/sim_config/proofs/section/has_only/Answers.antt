use Rattle.std.proofs.Common.{◌∙◌}
use Rattle.sim_config.proofs.WordTests.{only_words}
use Rattle.sim_config.proofs.section.has_only.Goals as goal

pub returns : goal.returns
returns c = c.are_words.ensures ∙ only_words c.args.words.now c.args.own.now c.args.table.now.entries
