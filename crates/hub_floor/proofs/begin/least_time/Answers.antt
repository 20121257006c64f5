use Rattle.std.proofs.Common.{subst, sym}
use Rattle.hub_floor.specs.Floor.{hub_state}
use Rattle.hub_floor.specs.Begins.{IsLeastOf}
use Rattle.hub_floor.proofs.LeastLaws.{least_is}
use Rattle.hub_floor.proofs.begin.least_time.Goals as goal

pub returns : goal.returns
returns g c = subst (λ o. IsLeastOf (hub_state c.args.floor.now) o) (sym c.lesser.ensures) (least_is c.args.floor.now c.first_of-next.result c.first_of-asked.result c.requires c.first_of-next.ensures c.first_of-asked.ensures)
