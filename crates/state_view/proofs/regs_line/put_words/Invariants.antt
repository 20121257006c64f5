use Rattle.std.proofs.Common.{◌≡◌, ◌++◌}
use Rattle.state_view.specs.RegsLine.{register_words}
use Rattle.state_view.proofs.regs_line.put_words.Given as goal

abbrev pub invariant-loop-no : goal.invariant-loop-no
invariant-loop-no l = l.text ≡ l.fn.text ++ register_words l.core.regs l.no
