use Rattle.std.proofs.Common.{◌≡◌, ◌*◌, length, take}
use Rattle.std.specs.Prelude.{flat_map}
use Rattle.std.specs.Int.{w32, to_le_bytes}
use Rattle.plan_check.proofs.bytes.spelled_words.Given as goal

abbrev pub invariant-loop-word : goal.invariant-loop-word
invariant-loop-word l = record {
  so_far : l.bytes.items ≡ flat_map (to_le_bytes w32) (take l.word-index l.words);
  count : length l.bytes.items ≡ 4 * l.word-index;
}
