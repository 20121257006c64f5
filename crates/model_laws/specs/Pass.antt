-- One pass over the actors of one side.
use Rattle.std.specs.Prelude.{ℕ, ◌/◌, List, [], ◌∷◌, Option, Some, None, Bool, true, false, slice_set}
use Rattle.port_msg.specs.PortView.{PortView}
use Rattle.tick_law.specs.Machine.{Machine}
use Rattle.tick_law.specs.WorldPlaces.{SidePlaces}
use Rattle.tick_law.specs.Pass.{Side, gather, has_edge, pass}
use Rattle.tick_law.specs.SerialLoop.{WorldState, with_links, with_parts}
use Rattle.tick_law.specs.Wires.{Wires}
use Rattle.tick_law.specs.WorldPlaces.{alls, emptied, somes}

-- these are put at these numbers
abbrev pub scatter : {A : Type 0} → List A → List ℕ → List A → List A
scatter xs [] ys = xs
scatter xs (q ∷ qs) [] = xs
scatter xs (q ∷ qs) (y ∷ ys) = slice_set (scatter xs qs ys) q y

module _ {P N : Type 0} where
  abbrev pub parts_pass : Machine P → Wires → (ℕ → Bool) → ℕ → WorldState P N → WorldState P N
  parts_pass m wires stepped t w = with_parts w (pass m wires stepped t (record { states = w.parts; ports = w.ports }))

  abbrev pub links_pass : Machine N → Wires → (ℕ → Bool) → ℕ → WorldState P N → WorldState P N
  links_pass m wires stepped t w = with_links w (pass m wires stepped t (record { states = w.links; ports = w.ports }))

module _ {S : Type 0} where
  abbrev pub side_places : List (Option S) → List (Option PortView) → SidePlaces S
  side_places actors ports = record { actors = actors; ports = ports }

  abbrev pub whole_side : Side S → SidePlaces S
  whole_side h = record { actors = alls h.states; ports = alls h.ports }

  abbrev pub side_of : List (Option S) → List (Option PortView) → Side S
  side_of actors ports = record { states = somes actors; ports = somes ports }

  -- what stands after actor i has stepped at t, where it is there and has an edge
  abbrev pub act_if : Bool → Machine S → List ℕ → ℕ → ℕ → SidePlaces S → S → SidePlaces S
  act_if true m own i t w s =
      let new = m.step s (gather (somes w.ports) own) (t / m.period s) in
      record { actors = slice_set w.actors i (Some new.state); ports = scatter (emptied w.ports own) own (alls new.ports) }
  act_if false m own i t w s = w

  abbrev pub act_at : Machine S → List ℕ → ℕ → ℕ → SidePlaces S → Option (Option S) → SidePlaces S
  act_at m own i t w None = w
  act_at m own i t w (Some None) = w
  act_at m own i t w (Some (Some s)) = act_if (has_edge m t s) m own i t w s
