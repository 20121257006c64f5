-- What the instructions do: "Integer Computational Instructions" (2.4), "Control Transfer Instructions" (2.5), "Load and Store Instructions" (2.6), "Memory Ordering Instructions" (2.7) and "Environment Call and Breakpoints" (2.8) of the chapter "RV32I Base Integer Instruction Set".
use Rattle.std.specs.Prelude.{◌≡◌, ◌⊎◌, ℕ, ◌+◌, ◌-◌, ◌*◌, ◌/◌, ◌%◌, ◌^◌, ◌<◌, ◌==◌, nat_lt, not, cond, Bool, true, false, List, Option, Some, None, bit_and, bit_or, bit_xor, int_lt}
use Rattle.std.specs.Int.{w32, cast_signed, cast_unsigned}
use Rattle.std.specs.Int.Signed.{shr_z}
use Rattle.rv_isa.specs.Bits.{sign_extended}
use Rattle.rv_isa.specs.Format.{rd_of, rs1_of, rs2_of, immediate_of}
use Rattle.rv_isa.specs.Regs.{register}
use Rattle.rv_isa.specs.Table.{format_of, op_of}
use Rattle.rv_isa.specs.declared.op.Op.{Op}
use Rattle.rv_isa.specs.declared.op.Op.TheVariants.{Lui, Auipc, Jal, Jalr, Beq, Bne, Blt, Bge, Bltu, Bgeu, Lb, Lh, Lw, Lbu, Lhu, Sb, Sh, Sw, Addi, Slti, Sltiu, Xori, Ori, Andi, Slli, Srli, Srai, Add, Sub, Sll, Slt, Sltu, Xor, Srl, Sra, Or, And, Fence, Ecall, Ebreak}
use Rattle.rv_isa.specs.declared.inst.Inst.{Inst}
use Rattle.rv_isa.specs.declared.effect.Effect.{Effect}
use Rattle.rv_isa.specs.declared.effect.Effect.TheVariants.{Go, Load, Store, Fence as FenceEffect, Call, Break, BadTarget}

-- sums, differences and products of powers of two lose what is above 32 bits
abbrev pub wrapped : ℕ → ℕ
wrapped n = n % 2 ^ 32

abbrev pub difference : ℕ → ℕ → ℕ
difference a b = wrapped (a + (2 ^ 32 - b))

-- the comparison of two's complement numbers
abbrev pub is_less_signed : ℕ → ℕ → Bool
is_less_signed a b = int_lt (cast_signed w32 a) (cast_signed w32 b)

-- a shift amount is the low five bits
abbrev pub amount : ℕ → ℕ
amount n = n % 2 ^ 5

abbrev pub shifted_left : ℕ → ℕ → ℕ
shifted_left a n = wrapped (a * 2 ^ amount n)

abbrev pub shifted_right : ℕ → ℕ → ℕ
shifted_right a n = a / 2 ^ amount n

-- the quotient of a two's complement number, rounded down: the sign is copied into the bits that fall free
abbrev pub shifted_right_signed : ℕ → ℕ → ℕ
shifted_right_signed a n = cast_unsigned w32 (shr_z (cast_signed w32 a) (2 ^ amount n))

abbrev pub one_if : Bool → ℕ
one_if b = cond b 1 0

-- bit 0 is cleared
abbrev pub even_below : ℕ → ℕ
even_below n = n - n % 2

-- writes a register and goes on to the next word
abbrev pub write : ℕ → ℕ → ℕ → Effect
write pc rd value = Go rd value (wrapped (pc + 4))

-- writes a register and goes to an address, which has to be a multiple of 4
abbrev pub jump : ℕ → ℕ → ℕ → Effect
jump rd value target = cond (target % 4 == 0) (Go rd value target) BadTarget

-- writes nothing, and jumps where the comparison holds
abbrev pub branch : ℕ → ℕ → Bool → Effect
branch pc imm taken = cond taken (jump 0 0 (wrapped (pc + imm))) (write pc 0 0)

abbrev pub store : ℕ → ℕ → ℕ → Effect
store bytes addr value = Store bytes addr (value % 2 ^ (8 * bytes))

-- the effect of an instruction at `pc` with the immediate `imm`, where rs1 holds `first` and rs2 holds `second`
unfoldable pub effect : Op → ℕ → ℕ → ℕ → ℕ → ℕ → Effect
effect Lui pc rd first second imm = write pc rd imm
effect Auipc pc rd first second imm = write pc rd (wrapped (pc + imm))
effect Jal pc rd first second imm = jump rd (wrapped (pc + 4)) (wrapped (pc + imm))
effect Jalr pc rd first second imm = jump rd (wrapped (pc + 4)) (even_below (wrapped (first + imm)))
effect Beq pc rd first second imm = branch pc imm (first == second)
effect Bne pc rd first second imm = branch pc imm (not (first == second))
effect Blt pc rd first second imm = branch pc imm (is_less_signed first second)
effect Bge pc rd first second imm = branch pc imm (not (is_less_signed first second))
effect Bltu pc rd first second imm = branch pc imm (nat_lt first second)
effect Bgeu pc rd first second imm = branch pc imm (not (nat_lt first second))
effect Lb pc rd first second imm = Load rd 1 true (wrapped (first + imm))
effect Lh pc rd first second imm = Load rd 2 true (wrapped (first + imm))
effect Lw pc rd first second imm = Load rd 4 false (wrapped (first + imm))
effect Lbu pc rd first second imm = Load rd 1 false (wrapped (first + imm))
effect Lhu pc rd first second imm = Load rd 2 false (wrapped (first + imm))
effect Sb pc rd first second imm = store 1 (wrapped (first + imm)) second
effect Sh pc rd first second imm = store 2 (wrapped (first + imm)) second
effect Sw pc rd first second imm = store 4 (wrapped (first + imm)) second
effect Addi pc rd first second imm = write pc rd (wrapped (first + imm))
effect Slti pc rd first second imm = write pc rd (one_if (is_less_signed first imm))
effect Sltiu pc rd first second imm = write pc rd (one_if (nat_lt first imm))
effect Xori pc rd first second imm = write pc rd (bit_xor first imm)
effect Ori pc rd first second imm = write pc rd (bit_or first imm)
effect Andi pc rd first second imm = write pc rd (bit_and first imm)
effect Slli pc rd first second imm = write pc rd (shifted_left first imm)
effect Srli pc rd first second imm = write pc rd (shifted_right first imm)
effect Srai pc rd first second imm = write pc rd (shifted_right_signed first imm)
effect Add pc rd first second imm = write pc rd (wrapped (first + second))
effect Sub pc rd first second imm = write pc rd (difference first second)
effect Sll pc rd first second imm = write pc rd (shifted_left first second)
effect Slt pc rd first second imm = write pc rd (one_if (is_less_signed first second))
effect Sltu pc rd first second imm = write pc rd (one_if (nat_lt first second))
effect Xor pc rd first second imm = write pc rd (bit_xor first second)
effect Srl pc rd first second imm = write pc rd (shifted_right first second)
effect Sra pc rd first second imm = write pc rd (shifted_right_signed first second)
effect Or pc rd first second imm = write pc rd (bit_or first second)
effect And pc rd first second imm = write pc rd (bit_and first second)
effect Fence pc rd first second imm = FenceEffect
effect Ecall pc rd first second imm = Call
effect Ebreak pc rd first second imm = Break

-- the effect of an instruction at `pc` on these registers
abbrev pub effect_of : List ℕ → ℕ → Inst → Effect
effect_of regs pc inst = effect inst.op pc inst.rd (register regs inst.rs1) (register regs inst.rs2) inst.imm

-- a register that is to be written is one of the 32
abbrev pub NamesRegister : Effect → Type 0
NamesRegister (Go rd value next) = rd < 32
NamesRegister (Load rd bytes signed addr) = rd < 32
NamesRegister (Store bytes addr value) = Unit {0}
NamesRegister FenceEffect = Unit {0}
NamesRegister Call = Unit {0}
NamesRegister Break = Unit {0}
NamesRegister BadTarget = Unit {0}

-- an address to go to is a multiple of 4
abbrev pub GoesToWord : Effect → Type 0
GoesToWord (Go rd value next) = next % 4 ≡ 0
GoesToWord (Load rd bytes signed addr) = Unit {0}
GoesToWord (Store bytes addr value) = Unit {0}
GoesToWord FenceEffect = Unit {0}
GoesToWord Call = Unit {0}
GoesToWord Break = Unit {0}
GoesToWord BadTarget = Unit {0}

-- the number of bytes of a load or a store
abbrev pub IsWidth : ℕ → Type 0
IsWidth bytes = (bytes ≡ 1) ⊎ (bytes ≡ 2) ⊎ (bytes ≡ 4)

-- a load or a store has 1, 2 or 4 bytes
abbrev pub HasWidth : Effect → Type 0
HasWidth (Go rd value next) = Unit {0}
HasWidth (Load rd bytes signed addr) = IsWidth bytes
HasWidth (Store bytes addr value) = IsWidth bytes
HasWidth FenceEffect = Unit {0}
HasWidth Call = Unit {0}
HasWidth Break = Unit {0}
HasWidth BadTarget = Unit {0}

-- the low bytes of a word
abbrev pub low_bytes : ℕ → ℕ → ℕ
low_bytes bytes word = word % 2 ^ (8 * bytes)

-- what a load writes: the low bytes of a word, with copies of their sign above them or with zeros
abbrev pub loaded : ℕ → Bool → ℕ → ℕ
loaded bytes signed word = cond signed (sign_extended (8 * bytes - 1) (low_bytes bytes word)) (low_bytes bytes word)

-- the effect of an instruction that has its registers and its immediate from a word
abbrev pub effect_by : List ℕ → ℕ → ℕ → Op → Effect
effect_by regs pc word op =
    effect op pc (rd_of (format_of op) word) (register regs (rs1_of (format_of op) word)) (register regs (rs2_of (format_of op) word)) (immediate_of (format_of op) word)

abbrev pub effect_if : List ℕ → ℕ → ℕ → Option Op → Option Effect
effect_if regs pc word None = None
effect_if regs pc word (Some op) = Some (effect_by regs pc word op)

-- the effect of the instruction that a word spells, or none where it spells none
abbrev pub word_effect : List ℕ → ℕ → ℕ → Option Effect
word_effect regs pc word = effect_if regs pc word (op_of word)
