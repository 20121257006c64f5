use Rattle.std.proofs.Common.{◌≡◌, take}
use Rattle.part_view.proofs.part_viewer.words_of.Given as goal

abbrev pub invariant-loop-name : goal.invariant-loop-name
invariant-loop-name l = l.words.items ≡ take l.name-index l.names
