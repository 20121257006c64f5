use Rattle.std.proofs.Common.{◌+◌, ◌-◌, ◌≤◌, ◌≡◌, length}
use Rattle.task_stats.specs.Tasks.{after_records}
use Rattle.run_hub.specs.Lines.{side_records}
use Rattle.run_hub.proofs.count.count_side.Given as goal

abbrev pub invariant-loop-no : goal.invariant-loop-no
invariant-loop-no g l = record {
  within : l.at ≤ length l.back;
  counted : l.stats ≡ after_records l.fn.stats (side_records l.back l.seats.items l.at);
}

abbrev pub decreases-loop-no : goal.decreases-loop-no
decreases-loop-no g l = length l.back + 1 - l.at
