use Rattle.std.proofs.Common.{◌≡◌, replicate}
use Rattle.task_stats.specs.Tasks.{no_tasks}
use Rattle.task_stats.proofs.stats.Stats.open.Given as goal

abbrev pub invariant-loop : goal.invariant-loop
invariant-loop l = l.list.items ≡ replicate l.counter no_tasks
