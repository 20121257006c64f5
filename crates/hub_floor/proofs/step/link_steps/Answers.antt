use Rattle.std.proofs.Common.{◌≡◌, ℕ, length, ◌∙◌, ap, arith}
use Rattle.std.specs.Prelude.{false}
use Rattle.tick_law.specs.PlanView.{system_from}
use Rattle.tick_law.specs.Course.{link_course}
use Rattle.away_rows.specs.Bodies.{body_after}
use Rattle.hub_floor.proofs.SideSteps.{steps_away}
use Rattle.hub_floor.proofs.step.link_steps.Goals as goal

pub step-requires-clause-own : goal.step-requires-clause-own
step-requires-clause-own g c = c.requires.task.own

pub step-requires-clause-time : goal.step-requires-clause-time
step-requires-clause-time g c = c.requires.task.time

pub step-requires-clause-room : goal.step-requires-clause-room
step-requires-clause-room g c =
    let was = c.requires.task.before in
    let none : length c.args.body.now.recs.items ≡ 0 = ap length was.none in
    let ports = was.kit.ports in
    let room = was.kit.room in
    omega (arith, none, ports, room)

pub returns-clause-done : goal.returns-clause-done
returns-clause-done g c =
    let r = system_from g.P.Actor.machine g.N.Actor.machine g.C.Charter.plan g.C.Charter.start in
    let e = c.step.ensures in
    steps_away (link_course r) (length r.start.world.parts) c.args.t c.args.no false c.args.body.now c.step.new.body c.step.result c.requires.task
    (e.body ∙ ap (λ (k : ℕ). body_after r.link k c.args.t c.args.body.now) c.requires.who) e.flag e.long
