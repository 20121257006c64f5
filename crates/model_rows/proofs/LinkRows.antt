-- The steps of the link of three ports, computed.
use Rattle.std.specs.Prelude.{refl}
use Rattle.model_rows.specs.LinkRows.{InTurn}

pub in_turn : InTurn
in_turn = record { first_port = refl; no_room = refl; second_port = refl; round = refl }
