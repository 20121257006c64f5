-- The steps of the cache, computed.
use Rattle.std.specs.Prelude.{refl}
use Rattle.cache_comp.specs.Cache.{write_request, read_request, read_answer, write_answer}
use Rattle.model_rows.specs.LineRows.{UsedLines, Victims}

pub used_lines : UsedLines
unfolding read_answer write_answer
used_lines = record { read_hit = refl; write_hit = refl; two_lines = refl }

pub victims : Victims
unfolding write_request read_request read_answer
victims = record { least_used = refl; invalid_first = refl; evicts = refl; fills = refl }
