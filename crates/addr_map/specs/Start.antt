-- The starts of ranges, in rising order.
use Rattle.std.specs.Prelude.{◌≡◌, ℕ, ◌<◌, ◌≤◌, List, length, slice_index_or, All, AllPairs}
use Rattle.std.specs.List.Sorted.{IsNonDecreasingBy}
use Rattle.addr_map.specs.declared.range.Range.{Range}
use Rattle.addr_map.specs.declared.start.Start.{Start}
use Rattle.addr_map.specs.Range.{IsRange, Apart}

-- where the range with this number starts
pub record IsStart (ranges : List Range) (start : Start) : Type 0 where
  pub no_within : start.no < length ranges
  pub base_is : (d : Range) → (slice_index_or ranges start.no d).base ≡ start.base

-- the first `count` ranges have these starts, in their order
pub record AreStarts (ranges : List Range) (count : ℕ) (starts : List Start) : Type 0 where
  pub count_is : length starts ≡ count
  pub each : All (IsStart ranges) starts
  pub in_order : (k : ℕ) (d : Start) → k < count → (slice_index_or starts k d).no ≡ k

-- the starts are one for each range
pub record HasStarts (ranges : List Range) (starts : List Start) : Type 0 where
  pub each : All (IsStart ranges) starts
  pub every : (no : ℕ) → no < length ranges → (k : ℕ) × (k < length starts) × ((d : Start) → (slice_index_or starts k d).no ≡ no)

-- the starts rise
abbrev pub IsRising : List Start → Type 0
IsRising starts = IsNonDecreasingBy (λ s. s.base) starts

-- new has the starts of old, in rising order
pub record IsSortedStarts (old new : List Start) : Type 0 where
  pub kept : (ranges : List Range) → HasStarts ranges old → HasStarts ranges new
  pub rising : IsRising new

-- the first `below` starts are at or below the address, and the others above it
pub record AreBelow (starts : List Start) (addr below : ℕ) : Type 0 where
  pub bound : below ≤ length starts
  pub first : (k : ℕ) (d : Start) → k < below → (slice_index_or starts k d).base ≤ addr
  pub others : (k : ℕ) (d : Start) → below ≤ k → k < length starts → addr < (slice_index_or starts k d).base

-- what the ranges of a map keep
pub record IsMap (ranges : List Range) : Type 0 where
  pub shape : All IsRange ranges
  pub apart : AllPairs Apart ranges

-- what a map keeps of its ranges and their starts
pub record IsSearchable (ranges : List Range) (starts : List Start) : Type 0 where
  pub is_map : IsMap ranges
  pub has_starts : HasStarts ranges starts
  pub rising : IsRising starts
