-- The run of three relays up to 20 periods: the token is sent at 0, 2, .., 10 and ends at 11.
use Rattle.std.specs.Prelude.{◌≡◌, [], ◌∷◌, None, refl}
use Rattle.port_msg.specs.PortView.{port_view}
use Rattle.tick_law.specs.SerialLoop.{world_at, edges_below}
use Rattle.tick_law.specs.Verdict.{verdict_at, end_at, awake_below}
use Rattle.tick_law.specs.declared.verdict.Verdict.TheVariants.{Finished}
use Rattle.traffic_parts.specs.Relay.{token}
use Rattle.ring_rows.specs.Lone.{relay_at}
use Rattle.ring_rows.specs.Three.{three, three_link}

pub world_21 : world_at three 21 ≡ record { parts = relay_at 0 1 1 None 2 1 ∷ relay_at 1 2 1 None 2 0 ∷ relay_at 2 0 1 None 2 0 ∷ []; links = three_link 0 6 ∷ []; ports = port_view [] [] 4 ∷ port_view [] [] 4 ∷ port_view [] [] 4 ∷ [] }
unfolding token
world_21 = refl

pub verdict_20 : verdict_at three 20 ≡ Finished
unfolding token
verdict_20 = refl

pub end_20 : end_at three 20 ≡ 11
unfolding token
end_20 = refl

pub edges_21 : edges_below three 21 ≡ 84
unfolding token
edges_21 = refl

-- the loop that ticks only the awake takes 33 of these 84 steps
pub awake_21 : awake_below three 21 ≡ 33
unfolding token
awake_21 = refl
