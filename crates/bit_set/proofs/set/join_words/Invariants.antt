use Rattle.std.proofs.Common.{◌≡◌, ◌+◌, ◌*◌}
use Rattle.std.specs.Prelude.{slice_index}
use Rattle.bit_set.specs.Bits.{in_words}
use Rattle.bit_set.proofs.JoinLaws.{IsJoined}
use Rattle.bit_set.proofs.set.join_words.Given as goal

abbrev pub invariant-loop-n : goal.invariant-loop-n
invariant-loop-n l =
    IsJoined l.fn.words l.words (λ k. in_words l.others (l.start * 64 + l.shift + k)) l.n
    × (l.low ≡ slice_index l.others (l.start + l.n))
