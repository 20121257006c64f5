-- The two sides of a world among all actors.
use Rattle.std.specs.Prelude.{◌≡◌, ℕ, ◌+◌, List, length, Option, Bool, true, false, slice_index_or}
use Rattle.sim_base.specs.Edge.{edge_from}
use Rattle.sim_base.specs.declared.time.Time.{Time}
use Rattle.model_laws.specs.SideTimes.{half_of}
use Rattle.actor_turn.specs.declared.side.SideGear.{SideGear}

-- the next times of one side, in picoseconds
abbrev pub times_of : SideGear → List (Option Time) → List (Option ℕ)
times_of side next = half_of side.first (length side.periods.items) next

-- the parts stand before the links among so many actors
pub record AreInOrder (parts links : SideGear) (all : ℕ) : Type 0 where
  pub start : parts.first ≡ 0
  pub then : links.first ≡ length parts.periods.items
  pub together : all ≡ links.first + length links.periods.items

-- the first edge from a time of an actor of one side
abbrev pub edge_of : SideGear → ℕ → ℕ → ℕ
edge_of side from j = edge_from (slice_index_or side.periods.items j 0) from

-- from when on a turn at t wakes: parts (true) after t, since their pass is over, and links (false) at t
abbrev pub wake_time : Bool → ℕ → ℕ
wake_time true t = t + 1
wake_time false t = t
