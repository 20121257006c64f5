use Rattle.std.proofs.Common.{◌∙◌}
use Rattle.part_view.proofs.TextLaws.{name_utf8}
use Rattle.part_view.proofs.word.text_of.Goals as goal

pub returns : goal.returns
returns c = c.in_ok-from_utf8_lossy.ensures.ok (name_utf8 c.text.result.now c.text.ensures.shape) ∙ c.text.ensures.value
