-- The next time that a turn leaves an actor.
use Rattle.std.specs.Prelude.{ℕ, Option, Some, None, Bool}
use Rattle.tick_law.specs.Machine.{Machine}
use Rattle.tick_law.specs.Pass.{has_edge}
use Rattle.model_laws.specs.NextTable.{next_by}

module _ {S : Type 0} where
  -- the next time that a step with this flag at t leaves to an actor that is now in state s, where it had the next time `old`
  abbrev pub left_by : Machine S → ℕ → Bool → Option ℕ → S → Option ℕ
  left_by m t flag old s = next_by (has_edge m t s) m t flag old s

  abbrev pub next_seat_of : Machine S → ℕ → Bool → Option ℕ → Option S → Option ℕ
  next_seat_of m t flag old None = old
  next_seat_of m t flag old (Some s) = left_by m t flag old s
