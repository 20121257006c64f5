use Rattle.std.proofs.Common.{◌≡◌, ◌++◌, take}
use Rattle.state_view.specs.Report.{lines_of, part_line}
use Rattle.state_view.proofs.world_report.put_parts.Given as goal

abbrev pub invariant-loop-no : goal.invariant-loop-no
invariant-loop-no l = l.text ≡ l.fn.text ++ lines_of part_line (take l.no l.names) (take l.no l.parts)
