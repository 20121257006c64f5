-- Words of 32 bits as numbers.
use Rattle.std.specs.Prelude.{ℕ, ◌+◌, ◌-◌, ◌*◌, ◌/◌, ◌%◌, ◌^◌}

-- the bits of a word from place `low` on, `width` of them
abbrev pub field : ℕ → ℕ → ℕ → ℕ
field low width word = word / 2 ^ low % 2 ^ width

-- a number whose sign bit is at this place, extended to 32 bits: each higher bit is a copy of the sign bit
abbrev pub sign_extended : ℕ → ℕ → ℕ
sign_extended sign bits = bits + bits / 2 ^ sign * (2 ^ 32 - 2 ^ (sign + 1))
