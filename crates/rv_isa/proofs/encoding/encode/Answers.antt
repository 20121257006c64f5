use Rattle.std.proofs.Common.{◌≡◌, ◌*◌, ◌+◌, ◌^◌, arith, inl, inr}
use Rattle.std.proofs.lemmas.Grind.{common_steps}
use Rattle.rv_isa.specs.Bits.{field}
use Rattle.rv_isa.proofs.BitsLemmas.{field-split, fence_word}
use Rattle.rv_isa.proofs.TableLemmas.{system_funct7, fence_row, only_fence, row_bounds}
use Rattle.rv_isa.proofs.encoding.encode.Goals as goal

pub returns-in-R-clause-fence : goal.returns-in-R-clause-fence
returns-in-R-clause-fence c e = grind (arith, fence_row c.args.inst.op e, fence_word c.word.result)

pub returns-in-R-clause-only : goal.returns-in-R-clause-only
returns-in-R-clause-only c word small other spells =
    elim c.in-R.is [ inl r ↦ grind (arith, common_steps, row_bounds) | inr f ↦ absurd (grind (arith, only_fence c.args.inst.op other)) ]

pub returns-in-System-clause-spelled : goal.returns-in-System-clause-spelled
returns-in-System-clause-spelled c =
    let s : field 20 12 c.word-in-System.result ≡ field 25 7 c.word-in-System.result * 2 ^ 5 + field 20 5 c.word-in-System.result = field-split 20 5 7 c.word-in-System.result in
    grind (arith, common_steps, system_funct7, s)

pub returns-in-System-clause-only : goal.returns-in-System-clause-only
returns-in-System-clause-only c word small other spells =
    let s : field 20 12 c.word-in-System.result ≡ field 25 7 c.word-in-System.result * 2 ^ 5 + field 20 5 c.word-in-System.result = field-split 20 5 7 c.word-in-System.result in
    let t : field 20 12 word ≡ field 25 7 word * 2 ^ 5 + field 20 5 word = field-split 20 5 7 word in
    grind (arith, common_steps, system_funct7, s, t)
