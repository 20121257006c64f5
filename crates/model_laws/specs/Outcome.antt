-- What the steps of one pass give.
use Rattle.std.specs.Prelude.{ℕ, ◌+◌, ◌/◌, List, length, Option, Some, None, Bool, true, false, slice_index_or}
use Rattle.std.proofs.Common.{zero, suc}
use Rattle.port_msg.specs.PortView.{PortView}
use Rattle.tick_law.specs.Machine.{Machine, Outcome}
use Rattle.tick_law.specs.Wires.{Wires, own_of}
use Rattle.tick_law.specs.Pass.{gather, has_edge, also}
use Rattle.tick_law.specs.Outcomes.{outcome_if}

-- those that are marked
abbrev pub named : List Bool → ℕ → Bool
named marks i = slice_index_or marks i false

-- those among the first so many that are in a set
abbrev pub joined : Bool → (ℕ → Bool) → ℕ → ℕ → Bool
joined true done i = also done i
joined false done i = done

abbrev pub firsts : (ℕ → Bool) → ℕ → ℕ → Bool
firsts stepped zero = λ k. false
firsts stepped (suc i) = joined (stepped i) (firsts stepped i) i

-- the most ports that the first so many have
abbrev pub own_to : Wires → ℕ → ℕ
own_to w zero = 0
own_to w (suc i) = own_to w i + length (own_of w i)

module _ {S : Type 0} where
  -- the step of one actor in its place
  abbrev pub outcome_at : Machine S → List ℕ → ℕ → List PortView → Option (Option S) → Option (Outcome S)
  outcome_at m own t ports None = None
  outcome_at m own t ports (Some None) = None
  outcome_at m own t ports (Some (Some s)) = outcome_if (has_edge m t s) (m.step s (gather ports own) (t / m.period s))
