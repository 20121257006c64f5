-- Runs that begin at another boundary than 0.
use Rattle.std.specs.Prelude.{◌≡◌, [], ◌∷◌, Some, None, refl}
use Rattle.port_msg.specs.PortView.{port_view}
use Rattle.port_msg.specs.RecView.{record_of}
use Rattle.port_msg.specs.declared.records.What.TheVariants.{Send, Take, Move}
use Rattle.tick_law.specs.SerialLoop.{System, world_at, records_below, end_below, edges_below}
use Rattle.tick_law.specs.Verdict.{part_next, link_next, awake_below, verdict_at, end_at}
use Rattle.tick_law.specs.declared.verdict.Verdict.TheVariants.{Finished}
use Rattle.traffic_parts.specs.Relay.{token}
use Rattle.part_kind.specs.declared.part.Part.{Part}
use Rattle.part_kind.specs.declared.link_kind.LinkKind.{LinkKind}
use Rattle.ring_rows.specs.Lone.{token_of}
use Rattle.ring_rows.specs.Pair.{pair, first_relay, second_relay, pair_link}

-- the run of two relays from boundary 10 on: the first relay took the token at 9 and is to send it at 12, the second waits for a
-- message, and the link moved the token at 7
abbrev pub resumed : System Part LinkKind
resumed = record pair {
  start = record {
    at = 10;
    world = record { parts = first_relay (Some 2) 1 0 ∷ second_relay None 1 0 ∷ []; links = pair_link 0 2 ∷ []; ports = port_view [] [] 4 ∷ port_view [] [] 4 ∷ [] };
    part_next = Some 12 ∷ None ∷ [];
    link_next = Some 14 ∷ [];
    end = 9;
  };
}

-- its next times are those that it begins with
pub first_next : part_next resumed 10 0 ≡ Some 12
first_next = refl

pub second_next : part_next resumed 10 1 ≡ None
second_next = refl

pub link_first_next : link_next resumed 10 0 ≡ Some 14
link_first_next = refl

pub end_10 : end_below resumed 10 ≡ 9
end_10 = refl

-- it goes on as the whole run does
pub world_25 : world_at resumed 25 ≡ world_at pair 25
unfolding token
world_25 = refl

pub records_16 : records_below resumed 16 ≡ record_of 12 0 (Send (token_of 0 1 0 1 1)) ∷ record_of 14 2 (Move (token_of 0 1 0 1 1)) ∷ record_of 15 1 (Take (token_of 0 1 0 1 1)) ∷ []
unfolding token
records_16 = refl

pub end_25 : end_below resumed 25 ≡ 24
unfolding token
end_25 = refl

-- up to 25 the whole run has 22 edges, 10 of them below boundary 10
pub edges_25 : edges_below resumed 25 ≡ 12
unfolding token
edges_25 = refl

pub awake_12 : awake_below resumed 13 ≡ 1
unfolding token
awake_12 = refl

-- a world that no run of these two leaves: a token of no more hops stands in the first relay's port at boundary 100
abbrev pub edited : System Part LinkKind
edited = record pair {
  start = record {
    at = 100;
    world = record { parts = first_relay None 0 0 ∷ second_relay None 0 0 ∷ []; links = pair_link 0 0 ∷ []; ports = port_view (token_of 1 0 1 0 0 ∷ []) [] 4 ∷ port_view [] [] 4 ∷ [] };
    part_next = Some 102 ∷ None ∷ [];
    link_next = None ∷ [];
    end = 50;
  };
}

-- it is taken at 102, and nobody does more
pub edited_end : end_at edited 104 ≡ 102
unfolding token
edited_end = refl

pub edited_finishes : verdict_at edited 105 ≡ Finished
unfolding token
edited_finishes = refl

-- the first relay is awake at 102, and at 105 since it took the token; the link sleeps on, since no list was full
pub edited_awake : awake_below edited 106 ≡ 2
unfolding token
edited_awake = refl
