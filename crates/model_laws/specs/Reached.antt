-- Boundaries that are reached over times at which nobody is due.
use Rattle.std.specs.Prelude.{◌≡◌, ℕ, ◌-◌, ◌<◌, ◌≤◌, List, Option, Some}
use Rattle.tick_law.specs.WorldPlaces.{WorldPlaces}
use Rattle.tick_law.specs.SerialLoop.{System, records_below, end_below}
use Rattle.tick_law.specs.Verdict.{awake_below}
use Rattle.model_laws.specs.NextTable.{next_at_place}
use Rattle.model_laws.specs.Boundary.{IsBoundary}

-- no next time of the table is below t
pub record NoneBelow (next : List (Option ℕ)) (count t : ℕ) : Type 0 where
  pub none : (i : ℕ) → i < count → (at : ℕ) → next_at_place next i ≡ Some at → t ≤ at

module _ {P N : Type 0} where
  -- a boundary with all that was gathered up to it
  pub record Reached (r : System P N) (d e : ℕ) (world : WorldPlaces P N) (parts links : List (Option ℕ)) : Type 0 where
    pub boundary : IsBoundary r e world parts links
    pub records : records_below r e ≡ records_below r d
    pub ending : end_below r e ≡ end_below r d
    pub steps : awake_below r e ≡ awake_below r d
