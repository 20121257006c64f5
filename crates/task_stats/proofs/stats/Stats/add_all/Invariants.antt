use Rattle.std.proofs.Common.{◌≡◌, drop}
use Rattle.task_stats.specs.Tasks.{after_records}
use Rattle.task_stats.proofs.stats.Stats.add_all.Given as goal

abbrev pub invariant-loop-record : goal.invariant-loop-record
invariant-loop-record l = after_records l.self (drop l.record-index l.records) ≡ after_records l.fn.self l.records
