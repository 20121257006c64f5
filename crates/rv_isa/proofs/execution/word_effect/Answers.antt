use Rattle.std.proofs.Common.{◌∙◌, sym, ap, rules, Some}
use Rattle.rv_isa.proofs.WordLemmas.{word_effect_some, word_effect_none}
use Rattle.rv_isa.proofs.execution.word_effect.Goals as goal

pub returns-in-Ok-clause-effect : goal.returns-in-Ok-clause-effect
returns-in-Ok-clause-effect c = ap Some c.exec.ensures.effect ∙ sym (word_effect_some c.args.regs.now c.args.pc c.args.word c.in-Ok.inst (search rules))

pub returns-in-Err-clause-effect : goal.returns-in-Err-clause-effect
returns-in-Err-clause-effect c = sym (word_effect_none c.args.regs.now c.args.pc c.args.word (search rules))
