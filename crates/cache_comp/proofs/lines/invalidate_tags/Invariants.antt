use Rattle.std.proofs.Common.{◌≡◌, ◌++◌, take, drop, map}
use Rattle.cache_comp.specs.Lines.{invalid_tag}
use Rattle.cache_comp.proofs.lines.invalidate_tags.Given as goal

abbrev pub invariant-loop-tag : goal.invariant-loop-tag
invariant-loop-tag l = l.tags ≡ map invalid_tag (take l.tag-index l.initial.tags) ++ drop l.tag-index l.initial.tags
