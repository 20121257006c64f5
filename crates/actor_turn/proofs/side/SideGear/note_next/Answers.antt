use Rattle.std.proofs.Common.{◌+◌, ap, ◌∙◌}
use Rattle.std.specs.Prelude.{slice_set}
use Rattle.event_queue.specs.NextTimes.{time_of}
use Rattle.model_laws.specs.SideTimes.{number_of, timed}
use Rattle.actor_turn.proofs.BeatLaws.{left_there}
use Rattle.actor_turn.proofs.side.SideGear.note_next.Goals as goal

pub returns : goal.returns
returns g c =
    let who = c.args.self.now.first + c.args.turn.now.no in
    let old = number_of (time_of c.args.next.now who) in
    c.set_next.ensures
    ∙ ap (λ o. slice_set c.args.next.now who (timed o))
    (c.left_at_edge-left.ensures old ∙ left_there g.S.Actor.machine c.args.turn.now.t c.period.result c.args.flag old c.args.actor.now c.period.ensures.period c.in-Some.ensures.edge)
