-- A ring of three relays, all of one period, told in periods: a token of six hops goes round twice.
use Rattle.std.specs.Prelude.{ℕ, [], ◌∷◌, Some, None}
use Rattle.port_msg.specs.PortView.{port_view}
use Rattle.tick_law.specs.SerialLoop.{System, beginning}
use Rattle.part_kind.specs.Part.{part}
use Rattle.part_kind.specs.LinkKind.{link}
use Rattle.part_kind.specs.declared.part.Part.{Part}
use Rattle.part_kind.specs.declared.link_kind.LinkKind.{LinkKind}
use Rattle.ring_rows.specs.Lone.{relay_at, link_at}

abbrev pub three_link : ℕ → ℕ → LinkKind
three_link pointer moved = link_at ((record { 0 = 0 }) ∷ (record { 0 = 1 }) ∷ (record { 0 = 2 }) ∷ []) 1 pointer moved

-- each relay sends to the next, and the last to the first, which starts with the token
abbrev pub three : System Part LinkKind
three = record {
  part = part;
  link = link;
  part_wires = record { own = (0 ∷ []) ∷ (1 ∷ []) ∷ (2 ∷ []) ∷ []; owner = 0 ∷ 1 ∷ 2 ∷ [] };
  link_wires = record { own = (0 ∷ 1 ∷ 2 ∷ []) ∷ []; owner = 0 ∷ 0 ∷ 0 ∷ [] };
  start = beginning (record {
    parts = relay_at 0 1 1 (Some 6) 0 0 ∷ relay_at 1 2 1 None 0 0 ∷ relay_at 2 0 1 None 0 0 ∷ [];
    links = three_link 0 0 ∷ [];
    ports = port_view [] [] 4 ∷ port_view [] [] 4 ∷ port_view [] [] 4 ∷ [];
  });
}
