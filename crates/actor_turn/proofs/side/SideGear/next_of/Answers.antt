use Rattle.std.proofs.Common.{◌∙◌}
use Rattle.actor_turn.proofs.BeatLaws.{left_there}
use Rattle.actor_turn.proofs.side.SideGear.next_of.Goals as goal

pub returns-in-Some : goal.returns-in-Some
returns-in-Some g c =
    c.left_at_edge.ensures c.args.old
    ∙ left_there g.S.Actor.machine c.args.t c.period.result c.args.flag c.args.old c.args.actor.now c.period.ensures.period c.in-Some.ensures.edge
