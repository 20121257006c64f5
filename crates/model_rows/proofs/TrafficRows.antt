-- The steps of the agent, computed.
use Rattle.std.specs.Prelude.{refl}
use Rattle.traffic_parts.specs.Agent.{write_request, read_request, drawn, target}
use Rattle.model_rows.specs.TrafficRows.{DrawnValues, DrawnRequests, SummedAnswers}

pub drawn_values : DrawnValues
drawn_values = record { first = refl; second = refl; third = refl; fourth = refl; fifth = refl; mixed = refl; reads = refl; all_writes = refl; fourth_word = refl; seventh_word = refl }

pub drawn_requests : DrawnRequests
unfolding write_request read_request drawn target
drawn_requests = record { writing = refl; mixed_first = refl; mixed_third = refl; too_early = refl; all_open = refl }

pub summed_answers : SummedAnswers
unfolding write_request read_request drawn target
summed_answers = record { lowest_first = refl; round = refl; of_a_write = refl }
