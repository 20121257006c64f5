use Rattle.std.proofs.Common.{subst, arith}
use Rattle.rv_isa.specs.declared.op.Op.{Op}
use Rattle.rv_isa.specs.Table.{row_of, IsOfRow}
use Rattle.rv_isa.proofs.encoding.tests.written_again.Goals as goal

pub returns : goal.returns
returns c other =
    let spells = c.in_ok-decode.ensures.spelled in
    let P : Op → Type 0 = λ op. IsOfRow c.args.word (row_of op) in
    c.encode.ensures.only c.args.word (omega arith) (λ e. other (subst P e spells.row)) spells
