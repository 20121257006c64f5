use Rattle.std.proofs.Common.{ℕ, ◌+◌, ◌<◌, ◌≤◌, take}
use Rattle.rtm_http.specs.Pieces.{IsHeadEnd}
use Rattle.rtm_http.proofs.line_end.has_head_end.Given as goal

abbrev pub invariant-loop-place : goal.invariant-loop-place
invariant-loop-place l = (k : ℕ) → l.seen ≤ k → k < l.place → IsHeadEnd (take (k + 1) l.text) → ⊥
