-- What holds of every effect: the register that it names is one of the 32, and a load or a store has 1, 2 or 4 bytes.
use Rattle.std.specs.Prelude.{◌≡◌, ℕ, ◌<◌, Bool, true, false, cond, List, Option, Some, None, refl}
use Rattle.std.proofs.Common.{inl, inr, arith, subst, ◌%◌, ◌==◌}
use Rattle.rv_isa.specs.declared.op.Op.{Op}
use Rattle.rv_isa.specs.declared.op.Op.TheVariants.{Lui, Auipc, Jal, Jalr, Beq, Bne, Blt, Bge, Bltu, Bgeu, Lb, Lh, Lw, Lbu, Lhu, Sb, Sh, Sw, Addi, Slti, Sltiu, Xori, Ori, Andi, Slli, Srli, Srai, Add, Sub, Sll, Slt, Sltu, Xor, Srl, Sra, Or, And, Fence, Ecall, Ebreak}
use Rattle.rv_isa.specs.declared.effect.Effect.{Effect}
use Rattle.rv_isa.specs.Bits.{field}
use Rattle.rv_isa.specs.Effect.{effect, jump, branch, effect_by, effect_if, word_effect, NamesRegister, HasWidth}
use Rattle.rv_isa.specs.Format.{has_rd}
use Rattle.rv_isa.specs.Table.{format_of, op_of}

-- what every effect keeps
pub record IsEffect (e : Effect) : Type 0 where
  pub register : NamesRegister e
  pub width : HasWidth e

jump_is : (rd value target : ℕ) → rd < 32 → IsEffect (jump rd value target)
jump_is rd value target l = by_test (target % 4 == 0)
  where
    by_test : (b : Bool) → IsEffect (cond b (Effect.Go rd value target) Effect.BadTarget)
    by_test true = record { register = l; width = tt }
    by_test false = record { register = tt; width = tt }

branch_is : (pc imm : ℕ) (b : Bool) → IsEffect (branch pc imm b)
branch_is pc imm true = jump_is 0 0 _ (omega arith)
branch_is pc imm false = record { register = omega arith; width = tt }

effect_is : (op : Op) (pc rd first second imm : ℕ) → rd < 32 → IsEffect (effect op pc rd first second imm)
unfolding effect
effect_is Lui pc rd first second imm l = record { register = l; width = tt }
effect_is Auipc pc rd first second imm l = record { register = l; width = tt }
effect_is Jal pc rd first second imm l = jump_is rd _ _ l
effect_is Jalr pc rd first second imm l = jump_is rd _ _ l
effect_is Beq pc rd first second imm l = branch_is pc imm _
effect_is Bne pc rd first second imm l = branch_is pc imm _
effect_is Blt pc rd first second imm l = branch_is pc imm _
effect_is Bge pc rd first second imm l = branch_is pc imm _
effect_is Bltu pc rd first second imm l = branch_is pc imm _
effect_is Bgeu pc rd first second imm l = branch_is pc imm _
effect_is Lb pc rd first second imm l = record { register = l; width = inl refl }
effect_is Lh pc rd first second imm l = record { register = l; width = inr (inl refl) }
effect_is Lw pc rd first second imm l = record { register = l; width = inr (inr refl) }
effect_is Lbu pc rd first second imm l = record { register = l; width = inl refl }
effect_is Lhu pc rd first second imm l = record { register = l; width = inr (inl refl) }
effect_is Sb pc rd first second imm l = record { register = tt; width = inl refl }
effect_is Sh pc rd first second imm l = record { register = tt; width = inr (inl refl) }
effect_is Sw pc rd first second imm l = record { register = tt; width = inr (inr refl) }
effect_is Addi pc rd first second imm l = record { register = l; width = tt }
effect_is Slti pc rd first second imm l = record { register = l; width = tt }
effect_is Sltiu pc rd first second imm l = record { register = l; width = tt }
effect_is Xori pc rd first second imm l = record { register = l; width = tt }
effect_is Ori pc rd first second imm l = record { register = l; width = tt }
effect_is Andi pc rd first second imm l = record { register = l; width = tt }
effect_is Slli pc rd first second imm l = record { register = l; width = tt }
effect_is Srli pc rd first second imm l = record { register = l; width = tt }
effect_is Srai pc rd first second imm l = record { register = l; width = tt }
effect_is Add pc rd first second imm l = record { register = l; width = tt }
effect_is Sub pc rd first second imm l = record { register = l; width = tt }
effect_is Sll pc rd first second imm l = record { register = l; width = tt }
effect_is Slt pc rd first second imm l = record { register = l; width = tt }
effect_is Sltu pc rd first second imm l = record { register = l; width = tt }
effect_is Xor pc rd first second imm l = record { register = l; width = tt }
effect_is Srl pc rd first second imm l = record { register = l; width = tt }
effect_is Sra pc rd first second imm l = record { register = l; width = tt }
effect_is Or pc rd first second imm l = record { register = l; width = tt }
effect_is And pc rd first second imm l = record { register = l; width = tt }
effect_is Fence pc rd first second imm l = record { register = tt; width = tt }
effect_is Ecall pc rd first second imm l = record { register = tt; width = tt }
effect_is Ebreak pc rd first second imm l = record { register = tt; width = tt }

rd_small : (b : Bool) (word : ℕ) → cond b (field 7 5 word) 0 < 32
rd_small true word = omega arith
rd_small false word = omega arith

-- the effect of a word
pub word_effect_is : (regs : List ℕ) (pc word : ℕ) (e : Effect) → word_effect regs pc word ≡ Some e → IsEffect e
word_effect_is regs pc word e h = by_op (op_of word) h
  where
    by_op : (o : Option Op) → effect_if regs pc word o ≡ Some e → IsEffect e
    by_op None h = absurd (cc)
    by_op (Some op) h =
        let same : effect_by regs pc word op ≡ e = cc in
        subst IsEffect same (effect_is op pc _ _ _ _ (rd_small (has_rd (format_of op)) word))
