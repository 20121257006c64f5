-- Registers as a list of 32 numbers: "Programmers' Model for Base Integer ISA" (2.1) of the chapter "RV32I Base Integer Instruction Set".
use Rattle.std.specs.Prelude.{ℕ, ◌==◌, cond, List, slice_index, slice_set}

-- what a register holds: register 0 reads 0
abbrev pub register : List ℕ → ℕ → ℕ
register regs r = cond (r == 0) 0 (slice_index regs r)

-- the registers after one is written: to write register 0 changes nothing
abbrev pub written : List ℕ → ℕ → ℕ → List ℕ
written regs r value = cond (r == 0) regs (slice_set regs r value)
