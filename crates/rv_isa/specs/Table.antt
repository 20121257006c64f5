-- The table of RV32I: "RV32I Base Instruction Set" of the chapter "RV32/64G Instruction Set Listings".
use Rattle.std.specs.Prelude.{◌≡◌, ◌<◌, ℕ, ◌==◌, ◌&&◌, cond, Bool, true, false, IsTrue, List, [], ◌∷◌, Option, Some, None}
use Rattle.rv_isa.specs.declared.format.Format.{Format}
use Rattle.rv_isa.specs.declared.format.Format.TheVariants.{R, I, Shift, S, B, U, J, Fence as FenceFormat, System}
use Rattle.rv_isa.specs.declared.op.Op.{Op}
use Rattle.rv_isa.specs.declared.op.Op.TheVariants.{Lui, Auipc, Jal, Jalr, Beq, Bne, Blt, Bge, Bltu, Bgeu, Lb, Lh, Lw, Lbu, Lhu, Sb, Sh, Sw, Addi, Slti, Sltiu, Xori, Ori, Andi, Slli, Srli, Srai, Add, Sub, Sll, Slt, Sltu, Xor, Srl, Sra, Or, And, Fence, Ecall, Ebreak}
use Rattle.rv_isa.specs.declared.row.Row.{Row}
use Rattle.rv_isa.specs.Bits.{field}
use Rattle.rv_isa.specs.Format.{has_rd, has_rs1, has_rs2, is_immediate}

-- a row: the format, the opcode, funct3, funct7 and funct12, each 0 where the format does not fix it
abbrev pub row : Format → ℕ → ℕ → ℕ → ℕ → Row
row format opcode funct3 funct7 funct12 = record { format = format; opcode = opcode; funct3 = funct3; funct7 = funct7; funct12 = funct12 }

-- the row of each instruction
unfoldable pub row_of : Op → Row
row_of Lui = row U 0b0110111 0b000 0b0000000 0
row_of Auipc = row U 0b0010111 0b000 0b0000000 0
row_of Jal = row J 0b1101111 0b000 0b0000000 0
row_of Jalr = row I 0b1100111 0b000 0b0000000 0
row_of Beq = row B 0b1100011 0b000 0b0000000 0
row_of Bne = row B 0b1100011 0b001 0b0000000 0
row_of Blt = row B 0b1100011 0b100 0b0000000 0
row_of Bge = row B 0b1100011 0b101 0b0000000 0
row_of Bltu = row B 0b1100011 0b110 0b0000000 0
row_of Bgeu = row B 0b1100011 0b111 0b0000000 0
row_of Lb = row I 0b0000011 0b000 0b0000000 0
row_of Lh = row I 0b0000011 0b001 0b0000000 0
row_of Lw = row I 0b0000011 0b010 0b0000000 0
row_of Lbu = row I 0b0000011 0b100 0b0000000 0
row_of Lhu = row I 0b0000011 0b101 0b0000000 0
row_of Sb = row S 0b0100011 0b000 0b0000000 0
row_of Sh = row S 0b0100011 0b001 0b0000000 0
row_of Sw = row S 0b0100011 0b010 0b0000000 0
row_of Addi = row I 0b0010011 0b000 0b0000000 0
row_of Slti = row I 0b0010011 0b010 0b0000000 0
row_of Sltiu = row I 0b0010011 0b011 0b0000000 0
row_of Xori = row I 0b0010011 0b100 0b0000000 0
row_of Ori = row I 0b0010011 0b110 0b0000000 0
row_of Andi = row I 0b0010011 0b111 0b0000000 0
row_of Slli = row Shift 0b0010011 0b001 0b0000000 0
row_of Srli = row Shift 0b0010011 0b101 0b0000000 0
row_of Srai = row Shift 0b0010011 0b101 0b0100000 0
row_of Add = row R 0b0110011 0b000 0b0000000 0
row_of Sub = row R 0b0110011 0b000 0b0100000 0
row_of Sll = row R 0b0110011 0b001 0b0000000 0
row_of Slt = row R 0b0110011 0b010 0b0000000 0
row_of Sltu = row R 0b0110011 0b011 0b0000000 0
row_of Xor = row R 0b0110011 0b100 0b0000000 0
row_of Srl = row R 0b0110011 0b101 0b0000000 0
row_of Sra = row R 0b0110011 0b101 0b0100000 0
row_of Or = row R 0b0110011 0b110 0b0000000 0
row_of And = row R 0b0110011 0b111 0b0000000 0
row_of Fence = row FenceFormat 0b0001111 0b000 0b0000000 0
row_of Ecall = row System 0b1110011 0b000 0b0000000 0
row_of Ebreak = row System 0b1110011 0b000 0b0000000 1

abbrev pub format_of : Op → Format
format_of op = (row_of op).format

-- whether a format fixes each field beside the opcode
abbrev pub has_funct3 : Format → Bool
has_funct3 R = true
has_funct3 I = true
has_funct3 Shift = true
has_funct3 S = true
has_funct3 B = true
has_funct3 U = false
has_funct3 J = false
has_funct3 FenceFormat = true
has_funct3 System = true

abbrev pub has_funct7 : Format → Bool
has_funct7 R = true
has_funct7 I = false
has_funct7 Shift = true
has_funct7 S = false
has_funct7 B = false
has_funct7 U = false
has_funct7 J = false
has_funct7 FenceFormat = false
has_funct7 System = false

abbrev pub has_funct12 : Format → Bool
has_funct12 R = false
has_funct12 I = false
has_funct12 Shift = false
has_funct12 S = false
has_funct12 B = false
has_funct12 U = false
has_funct12 J = false
has_funct12 FenceFormat = false
has_funct12 System = true

-- the word is one of the row: it has each field that the row fixes. The registers of ECALL and EBREAK are 0
pub record IsOfRow (word : ℕ) (r : Row) : Type 0 where
  pub opcode : field 0 7 word ≡ r.opcode
  pub funct3 : IsTrue (has_funct3 r.format) → field 12 3 word ≡ r.funct3
  pub funct7 : IsTrue (has_funct7 r.format) → field 25 7 word ≡ r.funct7
  pub funct12 : IsTrue (has_funct12 r.format) → field 20 12 word ≡ r.funct12
  pub no_rd : IsTrue (has_funct12 r.format) → field 7 5 word ≡ 0
  pub no_rs1 : IsTrue (has_funct12 r.format) → field 15 5 word ≡ 0

-- all instructions
abbrev pub ops : List Op
ops = Lui ∷ Auipc ∷ Jal ∷ Jalr ∷ Beq ∷ Bne ∷ Blt ∷ Bge ∷ Bltu ∷ Bgeu ∷ Lb ∷ Lh ∷ Lw ∷ Lbu ∷ Lhu ∷ Sb ∷ Sh ∷ Sw ∷ Addi ∷ Slti ∷ Sltiu ∷ Xori ∷ Ori ∷ Andi ∷ Slli ∷ Srli ∷ Srai ∷ Add ∷ Sub ∷ Sll ∷ Slt ∷ Sltu ∷ Xor ∷ Srl ∷ Sra ∷ Or ∷ And ∷ Fence ∷ Ecall ∷ Ebreak ∷ []

-- a field that the row fixes has its bits
abbrev pub fits_where : Bool → Bool → Bool
fits_where fixed same = cond fixed same true

-- the same as a test: the word is one of the row
abbrev pub fits : ℕ → Row → Bool
fits word r =
    let three = fits_where (has_funct3 r.format) (field 12 3 word == r.funct3) in
    let seven = fits_where (has_funct7 r.format) (field 25 7 word == r.funct7) in
    let twelve = fits_where (has_funct12 r.format) ((field 20 12 word == r.funct12) && ((field 7 5 word == 0) && (field 15 5 word == 0))) in
    (field 0 7 word == r.opcode) && (three && (seven && twelve))

-- the first of these instructions whose row the word is of
abbrev pub first_of : List Op → ℕ → Option Op
first_of [] word = None
first_of (op ∷ others) word = cond (fits word (row_of op)) (Some op) (first_of others word)

-- the instruction whose row the word is of, if there is one
unfoldable pub op_of : ℕ → Option Op
op_of word = first_of ops word

-- the registers and the immediate that an instruction can have
pub record IsInst (op : Op) (rd rs1 rs2 imm : ℕ) : Type 0 where
  pub small_rd : rd < 32
  pub small_rs1 : rs1 < 32
  pub small_rs2 : rs2 < 32
  pub without_rd : has_rd (format_of op) ≡ false → rd ≡ 0
  pub without_rs1 : has_rs1 (format_of op) ≡ false → rs1 ≡ 0
  pub without_rs2 : has_rs2 (format_of op) ≡ false → rs2 ≡ 0
  pub spelled : IsTrue (is_immediate (format_of op) imm)
