use Rattle.std.proofs.Common.{◌++◌, ◌∙◌, ap}
use Rattle.std.specs.Int.{to_be_bytes, w32}
use Rattle.hex.specs.Hex.{encode_lower}
use Rattle.state_view.proofs.RegsLaws.{no_words, one_word_more}
use Rattle.state_view.proofs.regs_line.put_words.Goals as goal

pub loop-no-init : goal.loop-no-init
loop-no-init c = no_words c.args.core.now.regs c.args.text.now

pub loop-no-preserved : goal.loop-no-preserved
loop-no-preserved c =
    one_word_more c.args.core.now.regs c.loop-no.no c.args.text.now c.loop-no.text c.put.new.self c.hex.new.self c.loop-no.invariant c.in_ok-put.ensures
    (c.in_ok-hex.ensures ∙ ap (λ bytes. c.put.new.self ++ encode_lower bytes) c.to_be_bytes.ensures ∙ ap (λ n. c.put.new.self ++ encode_lower (to_be_bytes w32 n)) c.reg.ensures)
