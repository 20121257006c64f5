-- The bytes of a memory, as lines of 16.
use Rattle.std.specs.Prelude.{ℕ, ◌+◌, ◌-◌, ◌*◌, ◌/◌, ◌%◌, zero, suc, List, [], ◌∷◌, ◌++◌, Bool, true, false, length, take, drop, replicate, codes, bytes_eq}
use Rattle.std.specs.Int.{to_be_bytes, w32}
use Rattle.hex.specs.Hex.{encode_lower}

abbrev pub line_feed : List ℕ
line_feed = 10 ∷ []

-- `mem NAME ADDR HEX`: the address in 8 hexadecimal digits, and two digits for each byte
abbrev pub row_line : List ℕ → ℕ → List ℕ → List ℕ
row_line name addr row = codes "mem " ++ name ++ codes " " ++ encode_lower (to_be_bytes w32 addr) ++ codes " " ++ encode_lower row ++ line_feed

-- bytes that are all zero have no line
abbrev pub row_line_unless : Bool → List ℕ → ℕ → List ℕ → List ℕ
row_line_unless true name addr row = []
row_line_unless false name addr row = row_line name addr row

abbrev pub row_text : List ℕ → ℕ → List ℕ → List ℕ
row_text name addr row = row_line_unless (bytes_eq row (replicate 16 0)) name addr row

-- the first rows of these bytes, of which the first has this address
abbrev pub first_rows : List ℕ → ℕ → List ℕ → ℕ → List ℕ
first_rows name addr bytes zero = []
first_rows name addr bytes (suc k) = first_rows name addr bytes k ++ row_text name (addr + 16 * k) (take 16 (drop (16 * k) bytes))

-- how many bytes stand before the first address that is a multiple of 16
abbrev pub before_rows : ℕ → ℕ
before_rows base = (16 - base % 16) % 16

-- a memory's rows: 16 bytes from each address that is a multiple of 16, ascending. (Memories of files begin and end at such
-- addresses.)
abbrev pub memory_rows : List ℕ → ℕ → List ℕ → List ℕ
memory_rows name base bytes = first_rows name (base + before_rows base) (drop (before_rows base) bytes) ((length bytes - before_rows base) / 16)
