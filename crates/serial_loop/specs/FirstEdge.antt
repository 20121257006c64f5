-- The first edge of several clocks.
use Rattle.std.specs.Prelude.{◌≡◌, ℕ, ◌<◌, ◌≤◌, List, length, slice_index_or}
use Rattle.sim_base.specs.Edge.{edge_from}
use Rattle.sim_base.specs.declared.time.TheConstants.{LONGEST_PERIOD}

-- each of these is the period of a clock
abbrev pub AreClocks : List ℕ → Type 0
AreClocks periods =
    (i : ℕ) → i < length periods
    → (0 < slice_index_or periods i 0) × (slice_index_or periods i 0 ≤ LONGEST_PERIOD)

-- no clock of these periods has an edge from a time on and before t
abbrev pub NoneEarlier : List ℕ → ℕ → ℕ → Type 0
NoneEarlier periods at t =
    (i : ℕ) → i < length periods → t ≤ edge_from (slice_index_or periods i 0) at

-- t is the first edge from a time on of one of the clocks of these periods
abbrev pub IsFirstEdge : List ℕ → ℕ → ℕ → Type 0
IsFirstEdge periods at t =
    (i : ℕ) × (i < length periods) × (t ≡ edge_from (slice_index_or periods i 0) at)
