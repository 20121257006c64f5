-- Owners that are woken by what their ports show.
use Rattle.std.specs.Prelude.{◌≡◌, ℕ, ◌+◌, ◌^◌, ◌<◌, ◌≤◌, ◌⊎◌, List, length, Option, Some, Bool, true, false, slice_set, take}
use Rattle.sim_base.specs.declared.time.Time.{Time}
use Rattle.event_queue.specs.NextTimes.{time_of}
use Rattle.tick_law.specs.Wires.{own_of, owner_of, Has}
use Rattle.tick_law.specs.Pass.{port_at}
use Rattle.tick_law.specs.Course.{any_of}
use Rattle.tick_law.specs.NextTime.{woken}
use Rattle.model_laws.specs.Fitted.{Wakes}
use Rattle.model_laws.specs.NextTable.{IsTable, next_at_place}
use Rattle.model_laws.specs.SideTimes.{half_of, timed}
use Rattle.port_row.specs.Row.{face_at, face_of}
use Rattle.port_rows.specs.Rows.{RowsView, other_face}
use Rattle.actor_turn.specs.declared.side.SideGear.{SideGear}
use Rattle.actor_turn.specs.Side.{edge_of}
use Rattle.actor_turn.specs.Hit.{hit}

-- the actors of one side can be woken, in a world of so many ports
pub record CanWake (side : SideGear) (ports : ℕ) (next : List (Option Time)) : Type 0 where
  pub wakes : Wakes side.wiring ports side.periods.items
      (half_of side.first (length side.periods.items) next)
  pub here : side.first + length side.periods.items ≤ length next
  pub few : side.first + length side.periods.items < 2 ^ 32

-- the next times where the owner of a port was woken, if it was
abbrev pub woken_by : Bool → SideGear → ℕ → ℕ → List (Option Time) → List (Option Time)
woken_by true side port from next = slice_set next (side.first + owner_of side.wiring port) (timed (Some (edge_of side from (owner_of side.wiring port))))
woken_by false side port from next = next

-- a port shows its part (true) or its link (false) something else than was seen of it
abbrev pub shows_other : Bool → RowsView → ℕ → Bool
shows_other part v q = other_face part (face_at v.seen q) (face_of (port_at v.ports q))

-- what stands when so many of these ports were looked at
pub record Waking (part : Bool) (own : List ℕ) (others : SideGear) (from : ℕ) (old : RowsView) (start : List (Option Time)) (at : ℕ) (now : RowsView) (next : List (Option Time)) : Type 0 where
  pub ports : now.ports ≡ old.ports
  pub wires : now.wires ≡ old.wires
  pub long : length now.seen ≡ length old.seen
  pub settled : (q : ℕ) → Has (take at own) q → face_at now.seen q ≡ face_of (port_at old.ports q)
  pub left : (q : ℕ) → (Has (take at own) q → ⊥) → face_at now.seen q ≡ face_at old.seen q
  pub all : length next ≡ length start
  pub rest : (i : ℕ) → (i < others.first) ⊎ (others.first + length others.periods.items ≤ i)
      → time_of next i ≡ time_of start i
  pub woken : IsTable (half_of others.first (length others.periods.items) next)
      (λ j. woken (any_of (hit (shows_other part old) (take at own)) (own_of others.wiring j))
      (edge_of others from j)
      (next_at_place (half_of others.first (length others.periods.items) start) j))
      (length others.periods.items)
