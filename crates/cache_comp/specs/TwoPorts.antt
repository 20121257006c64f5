-- Steps of parts with two ports, put together from rules that act at one of them.
use Rattle.std.specs.Prelude.{ℕ, ◌||◌, ◌++◌, List, slice_set}
use Rattle.port_msg.specs.PortView.{PortView}
use Rattle.port_row.specs.Row.{PortsView, port_at}
use Rattle.tick_law.specs.Machine.{Outcome}
use Rattle.tick_law.specs.OnePort.{Act}

-- the ports of a part that has two
abbrev pub first_of : PortsView → PortView
first_of ports = port_at ports.ports 0

abbrev pub second_of : PortsView → PortView
second_of ports = port_at ports.ports 1

-- the ports after the one at this place was changed
abbrev pub with_port : PortsView → ℕ → PortView → PortsView
with_port ports k p = record ports { ports = slice_set ports.ports k p }

module _ {S : Type 0} where
  -- a rule at the own port of this place
  abbrev pub at_place : ℕ → (S → PortView → Act S) → S → List PortView → Outcome S
  at_place k rule s ports =
      let a = rule s (port_at ports k) in
      record { state = a.state; ports = slice_set ports k a.port; records = a.records; flag = a.flag }

  -- one more rule in the same step, at the own port of this place, from what the rules before have left
  abbrev pub then_at : ℕ → (S → PortView → Act S) → Outcome S → Outcome S
  then_at k rule o =
      let a = rule o.state (port_at o.ports k) in
      record { state = a.state; ports = slice_set o.ports k a.port; records = o.records ++ a.records; flag = o.flag || a.flag }
