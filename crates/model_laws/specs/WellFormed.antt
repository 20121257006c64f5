-- Worlds and wires that a pass may be made of.
use Rattle.std.specs.Prelude.{◌≡◌, ℕ, ◌*◌, ◌^◌, ◌<◌, ◌≤◌, length, Some, slice_get}
use Rattle.tick_law.specs.Machine.{Machine}
use Rattle.tick_law.specs.Wires.{Wires, own_of, owner_of, Wired}
use Rattle.tick_law.specs.Pass.{Side, pass}
use Rattle.tick_law.specs.SerialLoop.{WorldState, Start, System, links_of, parts_of}
use Rattle.port_msg.specs.PortView.{PortView}
use Rattle.tick_law.specs.Frame.{IsPort}

module _ {S : Type 0} where
  -- Frames and validity over a whole pass
  pub record IsSound (m : Machine S) (valid : S → Type 0) (w : Wires) (h : Side S) : Type 0 where
    pub states : (i : ℕ) (s : S) → slice_get h.states i ≡ Some s → valid s × (length (own_of w i) ≡ m.own s)
    pub ports : (q : ℕ) (p : PortView) → slice_get h.ports q ≡ Some p → IsPort p

pub record HasRoom (S : Type 0) (m : Machine S) (w : Wires) (h : Side S) (hand recs : ℕ) : Type 0 where
  pub same : length w.own ≡ length h.states
  pub few : length h.states < 2 ^ 32
  pub wired : Wired w (length h.ports)
  pub owned : (q : ℕ) → q < length h.ports → owner_of w q < length h.states
  pub count : (i : ℕ) (s : S) → slice_get h.states i ≡ Some s → length (own_of w i) ≡ m.own s
  pub held : (i : ℕ) → length (own_of w i) ≤ hand
  pub room : (i : ℕ) → 64 * length (own_of w i) ≤ recs

module _ {P N : Type 0} where
  abbrev pub system : Machine P → Machine N → Wires → Wires → Start P N → System P N
  system part link part_wires link_wires start = record { part = part; link = link; part_wires = part_wires; link_wires = link_wires; start = start }

  -- a world of the run: as many of each as at the start, and each in a state that it can be in
  pub record IsWellFormed (r : System P N) (valid_part : P → Type 0) (valid_link : N → Type 0) (w : WorldState P N) : Type 0 where
    pub part_count : length w.parts ≡ length r.start.world.parts
    pub link_count : length w.links ≡ length r.start.world.links
    pub port_count : length w.ports ≡ length r.start.world.ports
    pub parts : IsSound r.part valid_part r.part_wires (parts_of w)
    pub links : IsSound r.link valid_link r.link_wires (links_of w)
