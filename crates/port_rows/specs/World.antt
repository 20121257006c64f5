-- What contracts see of a world that is held in rows.
use Rattle.std.specs.Prelude.{◌≡◌, List, map}
use Rattle.port_msg.specs.PortView.{PortView}
use Rattle.port_row.specs.Row.{face_of}
use Rattle.tick_law.specs.Wires.{Wires}
use Rattle.tick_law.specs.SerialLoop.{WorldState}
use Rattle.port_rows.specs.declared.world.World.{World}

module _ {P N : Type 0} where
  -- a state for each part and each link, and the lists of each port
  abbrev pub state_of : World P N → WorldState P N
  state_of w = record { parts = w.parts.items; links = w.links.items; ports = w.rows.ports }

  -- a world of these items, wired like this, of which all has been seen
  pub record IsFreshWorld (parts : List P) (links : List N) (ports : List PortView) (wires : Wires) (w : World P N) : Type 0 where
    pub parts_are : w.parts.items ≡ parts
    pub links_are : w.links.items ≡ links
    pub rows_are : w.rows ≡ record { ports = ports; seen = map face_of ports; wires = wires }
