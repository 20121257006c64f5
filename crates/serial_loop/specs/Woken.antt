-- Owners of ports that are woken.
use Rattle.std.specs.Prelude.{ℕ, List, length, Option, Some, Bool, true, false, slice_set}
use Rattle.tick_law.specs.Wires.{own_of}
use Rattle.tick_law.specs.Course.{any_of}
use Rattle.tick_law.specs.NextTime.{woken}
use Rattle.model_laws.specs.NextTable.{IsTable, next_at_place}
use Rattle.port_rows.specs.Rows.{RowsView}
use Rattle.actor_turn.specs.declared.side.SideGear.{SideGear}
use Rattle.actor_turn.specs.Side.{edge_of}
use Rattle.actor_turn.specs.Waking.{shows_other}

-- a next time that is set where something holds
abbrev pub set_where : Bool → ℕ → ℕ → List (Option ℕ) → List (Option ℕ)
set_where true who edge next = slice_set next who (Some edge)
set_where false who edge next = next

-- the owners on a side (true: parts, false: links) to whom a port of these rows shows something else than was seen of it step at
-- their first edge from a time on, and the others' next times stay
abbrev pub AreWoken : Bool → SideGear → ℕ → RowsView → List (Option ℕ) → List (Option ℕ) → Type 0
AreWoken part others from rows start next =
    IsTable next
    (λ j. woken (any_of (shows_other part rows) (own_of others.wiring j))
    (edge_of others from j) (next_at_place start j))
    (length start)
