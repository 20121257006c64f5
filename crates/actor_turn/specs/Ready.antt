-- A gear that fits its world.
use Rattle.std.specs.Prelude.{◌≡◌, ℕ, length, map}
use Rattle.port_row.specs.Row.{face_of}
use Rattle.port_rows.specs.Opening.{AreHands}
use Rattle.port_rows.specs.Rows.{RowsView}
use Rattle.actor_turn.specs.declared.gear.RowGear.{RowGear}
use Rattle.actor_turn.specs.Side.{AreInOrder}

-- the gear is of so many parts and links, and all that the ports show has been seen
pub record IsReady (g : RowGear) (parts links : ℕ) (rows : RowsView) : Type 0 where
  pub order : AreInOrder g.parts g.links (length g.next)
  pub wires : g.links.wiring ≡ rows.wires
  pub settled : rows.seen ≡ map face_of rows.ports
  pub part_due : length g.part_due ≡ parts
  pub link_due : length g.link_due ≡ links
  pub hands : AreHands g.hands.items g.parts.wiring parts
