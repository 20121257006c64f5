use Rattle.std.proofs.Common.{◌≡◌, ◌++◌, take}
use Rattle.state_view.specs.Report.{lines_of, regs_of}
use Rattle.state_view.proofs.world_report.put_registers.Given as goal

abbrev pub invariant-loop-no : goal.invariant-loop-no
invariant-loop-no l = l.text ≡ l.fn.text ++ lines_of regs_of (take l.no l.names) (take l.no l.parts)
