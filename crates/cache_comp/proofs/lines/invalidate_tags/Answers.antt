use Rattle.std.proofs.Common.{◌<◌, length, set, ap, ◌∙◌, arith}
use Rattle.cache_comp.specs.declared.line_tag.LineTag.{LineTag}
use Rattle.cache_comp.specs.Lines.{unused, invalid_tag}
use Rattle.cache_comp.proofs.LinesLemmas.{mapped_more}
use Rattle.cache_comp.proofs.lines.invalidate_tags.Goals as goal

pub loop-tag-preserved : goal.loop-tag-preserved
loop-tag-preserved c =
    let within : c.loop-tag.tag-index < length c.args.tags.now = omega arith in
    ap (λ (t : LineTag). set c.loop-tag.tags c.loop-tag.tag-index t) c.invalid.ensures ∙ mapped_more invalid_tag c.args.tags.now c.loop-tag.tags c.loop-tag.tag-index unused c.loop-tag.invariant within
