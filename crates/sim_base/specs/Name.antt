-- The shape of names.
use Rattle.std.specs.Prelude.{ℕ, ◌-◌, ◌<◌, ◌≤◌, ◌==◌, ◌&&◌, ◌||◌, nat_le, List, ◌++◌, length, Bool, IsTrue, All, replicate}

-- a byte of a name: `a` to `z`, `0` to `9` or `_`
abbrev pub is_name_byte : ℕ → Bool
is_name_byte b = nat_le 97 b && nat_le b 122 || nat_le 48 b && nat_le b 57 || b == 95

-- a name has 1 to 32 bytes
abbrev pub IsName : List ℕ → Type 0
IsName text = (0 < length text) × (length text ≤ 32) × All (λ b. IsTrue (is_name_byte b)) text

-- a text with zeros behind it, 32 bytes in all
abbrev pub padded : List ℕ → List ℕ
padded text = text ++ replicate (32 - length text) 0
