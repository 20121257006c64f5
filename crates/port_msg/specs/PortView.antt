-- What contracts see of a port.
use Rattle.std.specs.Prelude.{ℕ, List, ◌≤◌, ◌++◌, [], ◌∷◌}
use Rattle.port_msg.specs.declared.port.TheConstants.{MOST_MESSAGES}
use Rattle.port_msg.specs.declared.message.Msg.{Msg}

-- the incoming and the outgoing messages, the oldest first, and the capacity of each list
pub record PortView : Type 0 where
  pub incoming : List Msg
  pub outgoing : List Msg
  pub cap : ℕ

abbrev pub port_view : List Msg → List Msg → ℕ → PortView
port_view incoming outgoing cap = record { incoming = incoming; outgoing = outgoing; cap = cap }

-- a list of so many messages holds no more than its capacity, and that is no more than any list's
abbrev pub IsWithin : ℕ → ℕ → Type 0
IsWithin count cap = (count ≤ cap) × (cap ≤ MOST_MESSAGES)

-- a message stands at the end of the outgoing list
abbrev pub with_sent : PortView → Msg → PortView
with_sent p m = record p { outgoing = p.outgoing ++ m ∷ [] }

-- a message stands at the end of the incoming list
abbrev pub with_delivered : PortView → Msg → PortView
with_delivered p m = record p { incoming = p.incoming ++ m ∷ [] }
