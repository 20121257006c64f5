use Rattle.std.proofs.Common.{refl}
use Rattle.hub_floor.proofs.LeastLaws.{each_none}
use Rattle.hub_floor.proofs.begin.first_of.Goals as goal

pub returns-in-Some : goal.returns-in-Some
returns-in-Some g c = (c.in-Some.ensures.first.there, c.in-Some.ensures.first.least)

pub returns-in-None : goal.returns-in-None
returns-in-None g c = each_none c.args.times.now (c.in-None.ensures.none.0 refl)
