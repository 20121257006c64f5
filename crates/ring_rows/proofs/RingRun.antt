-- The run of two relays: sends at 0, 6, 12 and 18, moves at 0, 7, 14 and 21, takes at 3, 9, 15 and 24.
use Rattle.std.specs.Prelude.{◌≡◌, [], ◌∷◌, Some, None, refl}
use Rattle.port_msg.specs.PortView.{port_view}
use Rattle.port_msg.specs.RecView.{record_of}
use Rattle.port_msg.specs.declared.message.Msg.{Msg}
use Rattle.port_msg.specs.declared.records.What.TheVariants.{Send, Take, Move}
use Rattle.tick_law.specs.SerialLoop.{world_at, records_below, records_at_time, end_below, edges_below}
use Rattle.traffic_parts.specs.Relay.{token}
use Rattle.ring_rows.specs.Lone.{token_of}
use Rattle.ring_rows.specs.Pair.{pair, first_relay, second_relay, pair_link}

abbrev three : Msg
three = token_of 0 0 0 1 3

abbrev two : Msg
two = token_of 1 0 1 0 2

-- the token was sent at 0, moved at 0 and taken at 3
pub records_4 : records_below pair 4 ≡ record_of 0 0 (Send three) ∷ record_of 0 2 (Move three) ∷ record_of 3 1 (Take three) ∷ []
unfolding token
records_4 = refl

pub world_10 : world_at pair 10 ≡ record { parts = first_relay (Some 2) 1 0 ∷ second_relay None 1 0 ∷ []; links = pair_link 0 2 ∷ []; ports = port_view [] [] 4 ∷ port_view [] [] 4 ∷ [] }
unfolding token
world_10 = refl

pub records_10 : records_below pair 10 ≡ record_of 0 0 (Send three) ∷ record_of 0 2 (Move three) ∷ record_of 3 1 (Take three) ∷ record_of 6 1 (Send two) ∷ record_of 7 2 (Move two) ∷ record_of 9 0 (Take two) ∷ []
unfolding token
records_10 = refl

-- edges at 0, 3, 6 and 9 of both relays, and at 0 and 7 of the link
pub edges_10 : edges_below pair 10 ≡ 10
unfolding token
edges_10 = refl

pub end_10 : end_below pair 10 ≡ 9
unfolding token
end_10 = refl

abbrev one : Msg
one = token_of 0 1 0 1 1

abbrev last : Msg
last = token_of 1 1 1 0 0

pub records_12 : records_at_time pair 12 ≡ record_of 12 0 (Send one) ∷ []
unfolding token
records_12 = refl

-- at 21 the relays step before the link moves the token, so that it is taken at 24
pub records_21 : records_at_time pair 21 ≡ record_of 21 2 (Move last) ∷ []
unfolding token
records_21 = refl

pub records_24 : records_at_time pair 24 ≡ record_of 24 0 (Take last) ∷ []
unfolding token
records_24 = refl

-- the token has ended at the first relay
pub world_25 : world_at pair 25 ≡ record { parts = first_relay None 2 1 ∷ second_relay None 2 0 ∷ []; links = pair_link 0 4 ∷ []; ports = port_view [] [] 4 ∷ port_view [] [] 4 ∷ [] }
unfolding token
world_25 = refl

pub end_25 : end_below pair 25 ≡ 24
unfolding token
end_25 = refl
