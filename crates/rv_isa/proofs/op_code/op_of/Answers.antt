use Rattle.std.proofs.Common.{refl, arith, inl, inr}
use Rattle.rv_isa.proofs.RowLemmas.{IsOfRow-opcode, IsOfRow-funct3, IfNone-map, branch_word, load_word, store_word, register_word, shift_word, immediate_word, funct3_word, IsOfRow-other}
use Rattle.rv_isa.specs.Table.{row_of}
use Rattle.rv_isa.proofs.op_code.op_of.Goals as goal

pub returns-in-55-clause-some : goal.returns-in-55-clause-some
unfolding row_of
returns-in-55-clause-some c = IsOfRow-opcode c.args.word _ refl refl refl (grind arith)

pub returns-in-23-clause-some : goal.returns-in-23-clause-some
unfolding row_of
returns-in-23-clause-some c = IsOfRow-opcode c.args.word _ refl refl refl (grind arith)

pub returns-in-111-clause-some : goal.returns-in-111-clause-some
unfolding row_of
returns-in-111-clause-some c = IsOfRow-opcode c.args.word _ refl refl refl (grind arith)

pub returns-in-103-clause-some : goal.returns-in-103-clause-some
unfolding row_of
returns-in-103-clause-some c = IsOfRow-funct3 c.args.word _ refl refl (grind arith) (grind arith)

pub returns-in-15-clause-some : goal.returns-in-15-clause-some
unfolding row_of
returns-in-15-clause-some c = IsOfRow-funct3 c.args.word _ refl refl (grind arith) (grind arith)

pub returns-in-99-clause-none : goal.returns-in-99-clause-none
returns-in-99-clause-none c = IfNone-map c.branch_op.result _ _ (λ none op is. none op (branch_word c.args.word c.field-funct3.result op (grind arith) c.field-funct3.ensures.value is)) c.branch_op.ensures.none

pub returns-in-3-clause-none : goal.returns-in-3-clause-none
returns-in-3-clause-none c = IfNone-map c.load_op.result _ _ (λ none op is. none op (load_word c.args.word c.field-funct3.result op (grind arith) c.field-funct3.ensures.value is)) c.load_op.ensures.none

pub returns-in-35-clause-none : goal.returns-in-35-clause-none
returns-in-35-clause-none c = IfNone-map c.store_op.result _ _ (λ none op is. none op (store_word c.args.word c.field-funct3.result op (grind arith) c.field-funct3.ensures.value is)) c.store_op.ensures.none

pub returns-in-51-clause-none : goal.returns-in-51-clause-none
returns-in-51-clause-none c = IfNone-map c.register_op.result _ _ (λ none op is. none op (register_word c.args.word c.field-funct3.result c.field-funct7.result op (grind arith) c.field-funct3.ensures.value c.field-funct7.ensures.value is)) c.register_op.ensures.none

pub returns-in-19-clause-none : goal.returns-in-19-clause-none
returns-in-19-clause-none c = IfNone-map c.shift_op.result _ _ (λ none op is. none op (shift_word c.args.word c.field-funct3.result c.field-funct7.result op (grind arith) c.field-funct3.ensures.value c.field-funct7.ensures.value (grind arith) is)) c.shift_op.ensures.none

pub returns-in-19-2-clause-none : goal.returns-in-19-2-clause-none
returns-in-19-2-clause-none c = IfNone-map c.immediate_op.result _ _ (λ none op is. none op (immediate_word c.args.word c.field-funct3.result op (grind arith) c.field-funct3.ensures.value (grind arith) (grind arith) is)) c.immediate_op.ensures.none

pub returns-in_default-clause-none : goal.returns-in_default-clause-none
returns-in_default-clause-none c op is = grind (arith, funct3_word c.args.word op (inl (grind arith)) is)

pub returns-in_default-2-clause-none : goal.returns-in_default-2-clause-none
returns-in_default-2-clause-none c op is = grind (arith, funct3_word c.args.word op (inr (grind arith)) is)

pub returns-in_default-3-clause-none : goal.returns-in_default-3-clause-none
returns-in_default-3-clause-none c op is = IsOfRow-other c.args.word op (grind arith) (grind arith) (grind arith) (grind arith) (grind arith) (grind arith) (grind arith) (grind arith) (grind arith) (grind arith) (grind arith) is
