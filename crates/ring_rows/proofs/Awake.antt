-- Who is awake at which edge of the run of two relays.
use Rattle.std.specs.Prelude.{◌≡◌, Some, None, true, false, refl}
use Rattle.tick_law.specs.Course.{part_course, link_course, awake}
use Rattle.tick_law.specs.Verdict.{awake_below, part_next, link_next}
use Rattle.traffic_parts.specs.Relay.{token}
use Rattle.ring_rows.specs.Pair.{pair}

-- everyone is awake at 0
pub awake_at_0 : awake (part_course pair) 1 0 ≡ true
awake_at_0 = refl

-- the first relay sent at 0
pub awake_after_a_send : awake (part_course pair) 0 3 ≡ true
unfolding token
awake_after_a_send = refl

-- a token came to the second relay at 0, after its step
pub awake_after_a_delivery : awake (part_course pair) 1 3 ≡ true
unfolding token
awake_after_a_delivery = refl

-- the first relay did nothing at 3, and nothing came
pub asleep_at_6 : awake (part_course pair) 0 6 ≡ false
unfolding token
asleep_at_6 = refl

-- the token that was sent at 6 is moved at 7
pub awake_after_a_sent_token : awake (link_course pair) 0 7 ≡ true
unfolding token
awake_after_a_sent_token = refl

-- of the 10 edges below 10 the first relay sleeps at one
pub awake_below_10 : awake_below pair 10 ≡ 9
unfolding token
awake_below_10 = refl

-- at boundary 4 the first relay waits for a message, the second is to send, and the link moved at 0
pub next_of_the_first : part_next pair 4 0 ≡ None
unfolding token
next_of_the_first = refl

pub next_of_the_second : part_next pair 4 1 ≡ Some 6
unfolding token
next_of_the_second = refl

pub next_of_the_link : link_next pair 4 0 ≡ Some 7
unfolding token
next_of_the_link = refl
