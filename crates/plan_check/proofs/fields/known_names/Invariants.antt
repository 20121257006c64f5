use Rattle.std.proofs.Common.{◌≡◌, map, take}
use Rattle.plan_check.proofs.fields.known_names.Given as goal

abbrev pub invariant-loop-word : goal.invariant-loop-word
invariant-loop-word l = l.names.items ≡ map (λ w. w.now) (take l.word-index l.words)
