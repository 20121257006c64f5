use Rattle.std.proofs.Common.{sym}
use Rattle.hub_floor.proofs.LeastLaws.{none_in_all, some_in}
use Rattle.hub_floor.proofs.begin.is_empty.Goals as goal

pub returns-in-None : goal.returns-in-None
returns-in-None c = sym (none_in_all c.args.set.now c.in-None.ensures.none)

pub returns-in-Some : goal.returns-in-Some
returns-in-Some c = sym (some_in c.args.set.now _ c.in-Some.ensures.least.here)
