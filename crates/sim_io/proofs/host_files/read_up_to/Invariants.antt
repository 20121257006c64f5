use Rattle.std.proofs.Common.{◌+◌, ◌≤◌, length}
use Rattle.sim_io.proofs.Reading.{HasRead}
use Rattle.sim_io.proofs.host_files.read_up_to.Given as goal

abbrev pub invariant-loop-turn : goal.invariant-loop-turn
invariant-loop-turn g l = HasRead (g.R.Read.remaining l.initial.reader) (g.R.Read.remaining l.reader) l.bytes.items × (length l.bytes.items ≤ l.limit + 1)
