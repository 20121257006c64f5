-- The runs of the two agents, computed.
use Rattle.std.specs.Prelude.{refl}
use Rattle.traffic_parts.specs.Agent.{write_request, read_request, drawn, target}
use Rattle.mem_ctrl.specs.Memory.{read_answer, write_answer}
use Rattle.cache_comp.specs.Cache.{serve_bottom, serve_top, read_request as read_line, read_answer as answer_read, write_answer as answer_write}
use Rattle.model_rows.specs.MissRows.{OneAtATime, TwoAtOnce}

pub one_at_a_time : OneAtATime
unfolding write_request read_request drawn target read_answer write_answer read_line answer_read answer_write
one_at_a_time = record { world = refl; end = refl; verdict = refl }

pub two_at_once : TwoAtOnce
unfolding write_request read_request drawn target read_answer write_answer serve_bottom serve_top read_line answer_read answer_write
two_at_once = record { world = refl; end = refl; verdict = refl }
