use Rattle.std.proofs.Common.{◌≡◌, map, take}
use Rattle.part_view.proofs.part_viewer.field_words.Given as goal

abbrev pub invariant-loop-names : goal.invariant-loop-names
invariant-loop-names l = map (λ f. f.items) l.words.items ≡ map (λ f. f.items) (take l.names-index l.fields)
