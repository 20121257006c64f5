-- Edges of clocks.
use Rattle.std.specs.Prelude.{◌≡◌, ℕ, ◌+◌, ◌-◌, ◌%◌}
use Rattle.std.proofs.Common.{zero, suc}

-- a clock of this period has an edge at this time: each multiple of the period, 0 too
abbrev pub IsEdge : ℕ → ℕ → Type 0
IsEdge period t = t % period ≡ 0

-- the first edge after a time
abbrev pub edge_after : ℕ → ℕ → ℕ
edge_after t period = t + (period - t % period)

-- from a time that lies so far behind the last edge, the first edge from it on
abbrev pub edge_past : ℕ → ℕ → ℕ → ℕ
edge_past period t zero = t
edge_past period t (suc past) = t + (period - suc past)

-- the first edge from a time on
abbrev pub edge_from : ℕ → ℕ → ℕ
edge_from period t = edge_past period t (t % period)
