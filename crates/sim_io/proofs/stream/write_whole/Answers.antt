use Rattle.sim_io.proofs.Writing.{written_more, written_part}
use Rattle.sim_io.proofs.stream.write_whole.Goals as goal

pub returns-then-is_empty-clause-prefix : goal.returns-then-is_empty-clause-prefix
returns-then-is_empty-clause-prefix g c =
    written_part _ _ _ _ (written_more _ _ _ _ _ c.in-Some.taken c.loop-turn.invariant c.in-Some.ensures.within c.in-Some.ensures.bytes)

pub loop-turn-preserved : goal.loop-turn-preserved
loop-turn-preserved g c =
    written_more _ _ _ _ _ c.in-Some.taken c.loop-turn.invariant c.in-Some.ensures.within c.in-Some.ensures.bytes
