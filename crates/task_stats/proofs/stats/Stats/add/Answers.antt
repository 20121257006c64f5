use Rattle.std.proofs.Common.{ap, length, ◌∙◌}
use Rattle.task_stats.proofs.Lengths.{length-after_records}
use Rattle.task_stats.proofs.stats.Stats.add.Goals as goal

pub returns-clause-parts : goal.returns-clause-parts
returns-clause-parts c = ap length c.add_all.ensures ∙ length-after_records c.items.result.now c.args.self.now
