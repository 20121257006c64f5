-- Ranges of addresses, and the target of an address.
use Rattle.std.specs.Prelude.{◌≡◌, ℕ, ◌+◌, ◌-◌, ◌/◌, ◌%◌, ◌^◌, ◌<◌, ◌≤◌, nat_lt, nat_le, Bool, ◌&&◌, cond, List, [], ◌∷◌, length, Option, None, slice_get}
use Rattle.std.specs.Int.{IsPowerOfTwo}
use Rattle.sim_base.specs.declared.numbers.PortNo.{PortNo}
use Rattle.addr_map.specs.declared.range.Range.{Range}

-- what a range keeps: it lies among the 2^32 addresses, its bytes come in blocks of 64, a granule is a power of two, and its targets number 1, 2, 4, 8 or 16
pub record IsRange (r : Range) : Type 0 where
  pub base_aligned : r.base % 64 ≡ 0
  pub size_aligned : r.size % 64 ≡ 0
  pub not_empty : 64 ≤ r.size
  pub within_addresses : r.base + r.size ≤ 2 ^ 32
  pub granule_power : IsPowerOfTwo r.granule
  pub granule_least : 64 ≤ r.granule
  pub targets_power : IsPowerOfTwo (length r.to)
  pub targets_most : length r.to ≤ 16

-- an address is one of the range's bytes
pub record Holds (r : Range) (addr : ℕ) : Type 0 where
  pub from_base : r.base ≤ addr
  pub below_end : addr < r.base + r.size

-- no address is in both
abbrev pub Apart : Range → Range → Type 0
Apart r s = (addr : ℕ) → Holds r addr → ¬ Holds s addr

-- whose turn it is at an address of the range: from the base on, each target has one granule, and then the first one is next
abbrev pub turn_of : Range → ℕ → ℕ
turn_of r addr = ((addr - r.base) / r.granule) % length r.to

-- the target that serves an address of the range
abbrev pub target_of : Range → ℕ → Option PortNo
target_of r addr = slice_get r.to (turn_of r addr)

abbrev pub is_held : Range → ℕ → Bool
is_held r addr = nat_le r.base addr && nat_lt addr (r.base + r.size)

-- the target by the first range that holds the address
abbrev pub target_at : List Range → ℕ → Option PortNo
target_at [] addr = None
target_at (r ∷ rs) addr = cond (is_held r addr) (target_of r addr) (target_at rs addr)

-- a range of these fields
abbrev pub range_of : ℕ → ℕ → ℕ → List PortNo → Range
range_of base size granule to = record { base = base; size = size; granule = granule; to = to }
