-- The plan of the ring of three relays, computed.
use Rattle.std.specs.Prelude.{refl}
use Rattle.std.specs.Fmt.{digits}
use Rattle.model_rows.specs.RingRows.{ThreeRelays}

pub three_relays : ThreeRelays
unfolding digits
three_relays = record { start = refl; part_wires = refl; link_wires = refl; part_names = refl; link_names = refl; until = refl }
