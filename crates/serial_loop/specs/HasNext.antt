-- Next times that are left.
use Rattle.std.specs.Prelude.{ℕ, List, length, Option, Bool}
use Rattle.tick_law.specs.Verdict.{exists_to}
use Rattle.model_laws.specs.NextTable.{next_at_place}

-- some actor has a next time
abbrev pub has_next : List (Option ℕ) → Bool
has_next next = exists_to (next_at_place next) (length next)
