-- The first time of the ring of one relay: its token is sent and comes back.
use Rattle.std.specs.Prelude.{◌≡◌, [], ◌∷◌, refl}
use Rattle.port_msg.specs.RecView.{record_of}
use Rattle.port_msg.specs.declared.records.What.TheVariants.{Send, Move}
use Rattle.tick_law.specs.SerialLoop.{world_at, records_below, edges_below}
use Rattle.tick_law.specs.Verdict.{verdict_at, end_at}
use Rattle.tick_law.specs.declared.verdict.Verdict.TheVariants.{Cut}
use Rattle.traffic_parts.specs.Relay.{token}
use Rattle.ring_rows.specs.Lone.{token_of, lone, lone_after_one}

pub world_1 : world_at lone 1 ≡ lone_after_one
unfolding token
world_1 = refl

pub records_1 : records_below lone 1 ≡ record_of 0 0 (Send (token_of 0 0 0 0 1)) ∷ record_of 0 1 (Move (token_of 0 0 0 0 1)) ∷ []
unfolding token
records_1 = refl

pub end_1 : end_at lone 0 ≡ 0
end_1 = refl

pub edges_1 : edges_below lone 1 ≡ 2
edges_1 = refl

-- there is more to do
pub verdict_1 : verdict_at lone 0 ≡ Cut
unfolding token
verdict_1 = refl
