use Rattle.std.proofs.Common.{◌≡◌, ◌*◌, ◌≤◌, take}
use Rattle.std.specs.Prelude.{sum_by}
use Rattle.top_run.specs.Summary.{read_by}
use Rattle.top_run.proofs.summary.words_read.Given as goal

abbrev pub invariant-loop-part : goal.invariant-loop-part
invariant-loop-part l = (l.total ≡ sum_by read_by (take l.part-index l.parts)) × (l.total ≤ 4294967296 * l.part-index)
