use Rattle.sim_io.proofs.Writing.{HasWritten}
use Rattle.sim_io.proofs.stream.write_whole.Given as goal

abbrev pub invariant-loop-turn : goal.invariant-loop-turn
invariant-loop-turn g l = HasWritten (g.W.Write.contents l.initial.writer) (g.W.Write.contents l.writer) l.piece l.rest
