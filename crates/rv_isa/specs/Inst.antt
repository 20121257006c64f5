-- Which words spell which instructions.
use Rattle.std.specs.Prelude.{◌≡◌, ℕ}
use Rattle.rv_isa.specs.declared.inst.Inst.{Inst}
use Rattle.rv_isa.specs.Format.{rd_of, rs1_of, rs2_of, immediate_of}
use Rattle.rv_isa.specs.Table.{row_of, format_of, IsOfRow}

-- the word spells the instruction: it is one of its row, and has its registers and its immediate
pub record Spells (word : ℕ) (inst : Inst) : Type 0 where
  pub row : IsOfRow word (row_of inst.op)
  pub rd : inst.rd ≡ rd_of (format_of inst.op) word
  pub rs1 : inst.rs1 ≡ rs1_of (format_of inst.op) word
  pub rs2 : inst.rs2 ≡ rs2_of (format_of inst.op) word
  pub imm : inst.imm ≡ immediate_of (format_of inst.op) word
