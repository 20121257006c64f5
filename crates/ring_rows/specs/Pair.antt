-- Two relays of period 3 that pass a token to each other over a link of period 7.
use Rattle.std.specs.Prelude.{ℕ, [], ◌∷◌, Option, Some, None}
use Rattle.port_msg.specs.PortView.{port_view}
use Rattle.tick_law.specs.SerialLoop.{System, beginning}
use Rattle.part_kind.specs.Part.{part}
use Rattle.part_kind.specs.LinkKind.{link}
use Rattle.part_kind.specs.declared.part.Part.{Part}
use Rattle.part_kind.specs.declared.link_kind.LinkKind.{LinkKind}
use Rattle.ring_rows.specs.Lone.{relay_at, link_at}

-- the relay at port 0 sends to port 1, and the other way round
abbrev pub first_relay : Option ℕ → ℕ → ℕ → Part
first_relay holds sent ended = relay_at 0 1 3 holds sent ended

abbrev pub second_relay : Option ℕ → ℕ → ℕ → Part
second_relay holds sent ended = relay_at 1 0 3 holds sent ended

abbrev pub pair_link : ℕ → ℕ → LinkKind
pair_link pointer moved = link_at ((record { 0 = 0 }) ∷ (record { 0 = 1 }) ∷ []) 7 pointer moved

-- the first relay starts with four hops, and ports have room for 4 messages
abbrev pub pair : System Part LinkKind
pair = record {
  part = part;
  link = link;
  part_wires = record { own = (0 ∷ []) ∷ (1 ∷ []) ∷ []; owner = 0 ∷ 1 ∷ [] };
  link_wires = record { own = (0 ∷ 1 ∷ []) ∷ []; owner = 0 ∷ 0 ∷ [] };
  start = beginning (record { parts = first_relay (Some 4) 0 0 ∷ second_relay None 0 0 ∷ []; links = pair_link 0 0 ∷ []; ports = port_view [] [] 4 ∷ port_view [] [] 4 ∷ [] });
}
