use Rattle.std.proofs.Common.{◌-◌}
use Rattle.hub_floor.proofs.AskedInTurn.{Waited}
use Rattle.hub_floor.proofs.asked.wait_asked.Given as goal

abbrev pub invariant-loop-no : goal.invariant-loop-no
invariant-loop-no g l = Waited l.t l.parts l.fn.asked l.fn.waiting l.at l.asked l.waiting l.alone

abbrev pub decreases-loop-no : goal.decreases-loop-no
decreases-loop-no g l = l.parts - l.at
