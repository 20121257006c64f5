-- One relay that sends a token to itself.
use Rattle.std.specs.Prelude.{ℕ, List, [], ◌∷◌, Option, Some, None, replicate}
use Rattle.sim_base.specs.declared.numbers.PortNo.{PortNo}
use Rattle.port_msg.specs.PortView.{port_view}
use Rattle.tick_law.specs.SerialLoop.{System, WorldState, beginning}
use Rattle.port_msg.specs.declared.message.Msg.{Msg}
use Rattle.port_msg.specs.declared.message.MsgKind.TheVariants.{Token}
use Rattle.part_kind.specs.Part.{part}
use Rattle.part_kind.specs.LinkKind.{link}
use Rattle.part_kind.specs.declared.part.Part.{Part}
use Rattle.part_kind.specs.declared.part.Part.TheVariants.{Relay}
use Rattle.part_kind.specs.declared.link_kind.LinkKind.{LinkKind}
use Rattle.part_kind.specs.declared.link_kind.LinkKind.TheVariants.{Direct}

-- a relay of this number and period, whose port has its number, after it sent and ended so many tokens
abbrev pub relay_at : ℕ → ℕ → ℕ → Option ℕ → ℕ → ℕ → Part
relay_at number to period holds sent ended = Relay (record { part = record { 0 = number }; io = record { 0 = number }; to = record { 0 = to }; period = period; holds = holds; sent = sent; ended = ended })

-- a link of these ports
abbrev pub link_at : List PortNo → ℕ → ℕ → ℕ → LinkKind
link_at numbers period pointer moved = Direct (record { numbers = numbers; period = period; pointer = pointer; moved = moved })

abbrev pub lone_relay : Option ℕ → ℕ → ℕ → Part
lone_relay holds sent ended = relay_at 0 0 1000 holds sent ended

abbrev pub lone_link : ℕ → ℕ → LinkKind
lone_link pointer moved = link_at ((record { 0 = 0 }) ∷ []) 1000 pointer moved

-- the ring of one relay of period 1000, which starts with two hops, with ports for 4 messages
abbrev pub lone : System Part LinkKind
lone = record {
  part = part;
  link = link;
  part_wires = record { own = (0 ∷ []) ∷ []; owner = 0 ∷ [] };
  link_wires = record { own = (0 ∷ []) ∷ []; owner = 0 ∷ [] };
  start = beginning (record { parts = lone_relay (Some 2) 0 0 ∷ []; links = lone_link 0 0 ∷ []; ports = port_view [] [] 4 ∷ [] });
}

-- the token that this part made as its number seq, from a port to a port, with so many hops left
abbrev pub token_of : ℕ → ℕ → ℕ → ℕ → ℕ → Msg
token_of part seq src dst hops = record { id = record { part = record { 0 = part }; seq = seq }; src = record { 0 = src }; dst = record { 0 = dst }; kind = Token; addr = hops; len = 0; bytes = replicate 64 0 }

-- the ring of one relay after time 0: it has sent one token, the link has moved it, and it stands in the relay's port with one
-- hop left
abbrev pub lone_after_one : WorldState Part LinkKind
lone_after_one = record { parts = lone_relay None 1 0 ∷ []; links = lone_link 0 1 ∷ []; ports = port_view (token_of 0 0 0 0 1 ∷ []) [] 4 ∷ [] }
