-- The line of a core's registers in a dump.
use Rattle.std.specs.Prelude.{ℕ, zero, suc, List, [], ◌++◌, codes}
use Rattle.std.specs.Int.{to_be_bytes, w32}
use Rattle.hex.specs.Hex.{encode_lower}
use Rattle.rv_isa.specs.Regs.{register}
use Rattle.rv_core.specs.Core.{CoreState}

-- ` XXXXXXXX` for each of the first so many registers: 8 lower-case hexadecimal digits
unfoldable pub register_words : List ℕ → ℕ → List ℕ
register_words regs zero = []
register_words regs (suc n) = register_words regs n ++ codes " " ++ encode_lower (to_be_bytes w32 (register regs n))

-- `regs NAME` and the words of x0 to x31
abbrev pub regs_line : List ℕ → CoreState → List ℕ
regs_line name s = codes "regs " ++ name ++ register_words s.regs 32 ++ codes "\n"
