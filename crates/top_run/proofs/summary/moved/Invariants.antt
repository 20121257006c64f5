use Rattle.std.proofs.Common.{◌≡◌, ◌*◌, ◌≤◌, take}
use Rattle.std.specs.Prelude.{sum_by}
use Rattle.top_run.specs.Summary.{moved_by}
use Rattle.top_run.proofs.summary.moved.Given as goal

abbrev pub invariant-loop-link : goal.invariant-loop-link
invariant-loop-link l = (l.total ≡ sum_by moved_by (take l.link-index l.links)) × (l.total ≤ 18446744073709551616 * l.link-index)
