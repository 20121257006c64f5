-- The plan of the ring of three relays up to 20000.
use Rattle.std.specs.Prelude.{◌≡◌, ℕ, [], ◌∷◌, Option, Some, None, codes}
use Rattle.port_msg.specs.PortView.{port_view}
use Rattle.tick_law.specs.SerialLoop.{beginning}
use Rattle.traffic_parts.specs.Relay.{RelayState}
use Rattle.direct_link.specs.Direct.{DirectState}
use Rattle.part_kind.specs.declared.part.Part.TheVariants.{Relay}
use Rattle.part_kind.specs.declared.link_kind.LinkKind.TheVariants.{Direct}
use Rattle.ring_plan.specs.Ring.{ring_plan, ring_system}
use Rattle.model_rows.specs.Messages.{port}

-- the relay of this number, which sends to that port, with the hops that it holds
abbrev pub relay : ℕ → ℕ → Option ℕ → RelayState
relay number to holds = record { part = record { 0 = number }; io = port number; to = port to; period = 1000; holds = holds; sent = 0; ended = 0 }

abbrev pub net : DirectState
net = record { numbers = port 0 ∷ port 1 ∷ port 2 ∷ []; period = 1000; pointer = 0; moved = 0 }

pub record ThreeRelays : Type 0 where
  pub start : (ring_system 3 20000).start ≡ beginning (record {
    parts = Relay (relay 0 1 (Some 6)) ∷ Relay (relay 1 2 None) ∷ Relay (relay 2 0 None) ∷ [];
    links = Direct net ∷ [];
    ports = port_view [] [] 4 ∷ port_view [] [] 4 ∷ port_view [] [] 4 ∷ [];
  })
  pub part_wires : (ring_system 3 20000).part_wires ≡ record { own = (0 ∷ []) ∷ (1 ∷ []) ∷ (2 ∷ []) ∷ []; owner = 0 ∷ 1 ∷ 2 ∷ [] }
  pub link_wires : (ring_system 3 20000).link_wires ≡ record { own = (0 ∷ 1 ∷ 2 ∷ []) ∷ []; owner = 0 ∷ 0 ∷ 0 ∷ [] }
  pub part_names : (ring_plan 3 20000).part_names ≡ codes "r0" ∷ codes "r1" ∷ codes "r2" ∷ []
  pub link_names : (ring_plan 3 20000).link_names ≡ codes "net" ∷ []
  pub until : (ring_plan 3 20000).until ≡ 20000
