-- What is asked of the boundary that a run begins at.
use Rattle.std.specs.Prelude.{◌≡◌, ℕ, ◌+◌, ◌-◌, ◌/◌, ◌<◌, ◌≤◌, ◌⊎◌, List, Option, Some, None, true, false, slice_get, slice_index_or}
use Rattle.sim_base.specs.Edge.{edge_from}
use Rattle.tick_law.specs.Machine.{Machine}
use Rattle.tick_law.specs.Wires.{Wires, own_of}
use Rattle.tick_law.specs.Pass.{Side, gather, has_edge}
use Rattle.tick_law.specs.NextTime.{times, due_is}
use Rattle.tick_law.specs.Quiet.{Asleep}

module _ {S : Type 0} where
  -- each actor of a side whose next time at boundary from is not its first edge from there is asleep from its last edge t below the
  -- boundary on
  abbrev pub AreAsleep : Machine S → Wires → ℕ → List (Option ℕ) → Side S → Type 0
  AreAsleep m w from next h = (i t : ℕ) (s : S) → slice_get h.states i ≡ Some s → has_edge m t s ≡ true → t < from → from ≤ t + m.period s →
      due_is (slice_index_or next i None) (t + m.period s) ≡ false → Asleep S m s (gather h.ports (own_of w i)) (t / m.period s)

  -- the time that the timer of state s has at boundary from, after the edge below the first edge from there
  abbrev pub timer_at : Machine S → ℕ → S → Option ℕ
  timer_at m from s = times (m.period s) (m.due s ((edge_from (m.period s) from - m.period s) / m.period s))

  -- the next time of each actor of a side at boundary from is its first edge from there, or, behind time 0, what its timer says
  abbrev pub AreNext : Machine S → ℕ → List (Option ℕ) → Side S → Type 0
  AreNext m from next h = (i : ℕ) (s : S) → slice_get h.states i ≡ Some s →
      (slice_index_or next i None ≡ Some (edge_from (m.period s) from)) ⊎ ((0 < from) × (slice_index_or next i None ≡ timer_at m from s))
