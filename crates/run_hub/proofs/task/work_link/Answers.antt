use Rattle.std.proofs.Common.{sym, subst}
use Rattle.std.specs.Prelude.{false}
use Rattle.tick_law.specs.PlanView.{system_from}
use Rattle.tick_law.specs.Course.{link_course}
use Rattle.away_rows.specs.declared.body.Body.{Body}
use Rattle.hub_floor.specs.Passing.{IsTask}
use Rattle.run_hub.proofs.task.work_link.Goals as goal

pub link_steps-flag-requires-clause-task : goal.link_steps-flag-requires-clause-task
link_steps-flag-requires-clause-task g c =
    let r = system_from g.P.Actor.machine g.N.Actor.machine g.C.Charter.plan g.C.Charter.start in
    subst (λ (b : Body _). IsTask (link_course r) c.args.name.at.0 c.args.no false b) (sym c.deref_mut.ensures.value) c.requires.task
