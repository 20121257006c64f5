use Rattle.std.proofs.Common.{◌≡◌, ◌++◌, take}
use Rattle.state_view.specs.Report.{task_lines}
use Rattle.state_view.proofs.task_lines.put_tasks.Given as goal

abbrev pub invariant-loop-no : goal.invariant-loop-no
invariant-loop-no l = l.text ≡ l.fn.text ++ task_lines (take l.no l.names) (take l.no l.parts) (take l.no l.stats)
