-- The values that an agent draws, and what they say of its next request.
use Rattle.std.specs.Prelude.{ℕ, ◌+◌, ◌*◌, ◌/◌, ◌%◌, ◌^◌, ◌==◌, Bool, true, false}
use Rattle.sim_base.specs.declared.mode.Mode.{Mode}
use Rattle.sim_base.specs.declared.mode.Mode.TheVariants.{Read, Write, Mixed}

-- the value that is drawn after another
abbrev pub value_after : ℕ → ℕ
value_after value = (value * 1664525 + 1013904223) % 2 ^ 32

-- the address that a value says: one of the words of a span
abbrev pub address_of : ℕ → ℕ → ℕ → ℕ
address_of base span value = base + 4 * ((value / 256) % (span / 4))

-- whether the request is a write: in mixed mode where the sixteenth of the value is odd
abbrev pub writes : Mode → ℕ → Bool
writes Read value = false
writes Write value = true
writes Mixed value = (value / 16) % 2 == 1
