-- The steps of the memory, computed.
use Rattle.std.specs.Prelude.{refl}
use Rattle.mem_ctrl.specs.Memory.{read_answer, write_answer}
use Rattle.model_rows.specs.MemoryRows.{WholeAnswers}

pub whole_answers : WholeAnswers
unfolding read_answer write_answer
whole_answers = record { taken = refl; waits = refl; is_read = refl; is_written = refl }
