-- The formats of instructions: "Base Instruction Formats" (2.2) and "Immediate Encoding Variants" (2.3) of the chapter "RV32I Base Integer Instruction Set".
use Rattle.std.specs.Prelude.{ℕ, ◌+◌, ◌-◌, ◌*◌, ◌%◌, ◌^◌, ◌==◌, ◌&&◌, ◌||◌, nat_lt, nat_le, Bool, true, false, cond}
use Rattle.rv_isa.specs.declared.format.Format.{Format}
use Rattle.rv_isa.specs.declared.format.Format.TheVariants.{R, I, Shift, S, B, U, J, Fence, System}
use Rattle.rv_isa.specs.Bits.{field, sign_extended}

-- whether words of the format name a register to write
abbrev pub has_rd : Format → Bool
has_rd R = true
has_rd I = true
has_rd Shift = true
has_rd S = false
has_rd B = false
has_rd U = true
has_rd J = true
has_rd Fence = false
has_rd System = false

-- whether they name a first register to read
abbrev pub has_rs1 : Format → Bool
has_rs1 R = true
has_rs1 I = true
has_rs1 Shift = true
has_rs1 S = true
has_rs1 B = true
has_rs1 U = false
has_rs1 J = false
has_rs1 Fence = false
has_rs1 System = false

-- whether they name a second register to read
abbrev pub has_rs2 : Format → Bool
has_rs2 R = true
has_rs2 I = false
has_rs2 Shift = false
has_rs2 S = true
has_rs2 B = true
has_rs2 U = false
has_rs2 J = false
has_rs2 Fence = false
has_rs2 System = false

-- the register numbers that a word names, each 0 where its format has none
abbrev pub rd_of : Format → ℕ → ℕ
rd_of format word = cond (has_rd format) (field 7 5 word) 0

abbrev pub rs1_of : Format → ℕ → ℕ
rs1_of format word = cond (has_rs1 format) (field 15 5 word) 0

abbrev pub rs2_of : Format → ℕ → ℕ
rs2_of format word = cond (has_rs2 format) (field 20 5 word) 0

-- the immediate that a word has, extended to 32 bits; the shift amount of a shift; 0 where the format has none
abbrev pub immediate_of : Format → ℕ → ℕ
immediate_of R word = 0
immediate_of I word = sign_extended 11 (field 20 12 word)
immediate_of Shift word = field 20 5 word
immediate_of S word = sign_extended 11 (field 25 7 word * 2 ^ 5 + field 7 5 word)
immediate_of B word = sign_extended 12 (field 31 1 word * 2 ^ 12 + field 7 1 word * 2 ^ 11 + field 25 6 word * 2 ^ 5 + field 8 4 word * 2)
immediate_of U word = field 12 20 word * 2 ^ 12
immediate_of J word = sign_extended 20 (field 31 1 word * 2 ^ 20 + field 12 8 word * 2 ^ 12 + field 20 1 word * 2 ^ 11 + field 21 10 word * 2)
immediate_of Fence word = 0
immediate_of System word = 0

-- the number is one from -2^sign to 2^sign - 1, modulo 2^32
abbrev pub is_signed_by : ℕ → ℕ → Bool
is_signed_by sign n = nat_lt n (2 ^ sign) || nat_le (2 ^ 32 - 2 ^ sign) n

-- whether the number is an immediate that words of the format can spell
abbrev pub is_immediate : Format → ℕ → Bool
is_immediate R n = n == 0
is_immediate I n = is_signed_by 11 n
is_immediate Shift n = nat_lt n 32
is_immediate S n = is_signed_by 11 n
is_immediate B n = (n % 2 == 0) && is_signed_by 12 n
is_immediate U n = n % 2 ^ 12 == 0
is_immediate J n = (n % 2 == 0) && is_signed_by 20 n
is_immediate Fence n = n == 0
is_immediate System n = n == 0
