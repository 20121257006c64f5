use Rattle.std.proofs.Common.{sym, subst}
use Rattle.std.specs.Prelude.{true}
use Rattle.tick_law.specs.PlanView.{system_from}
use Rattle.tick_law.specs.Course.{part_course}
use Rattle.away_rows.specs.declared.body.Body.{Body}
use Rattle.hub_floor.specs.Passing.{IsTask}
use Rattle.run_hub.proofs.task.work_part.Goals as goal

pub part_steps-flag-requires : goal.part_steps-flag-requires
part_steps-flag-requires g c =
    let r = system_from g.P.Actor.machine g.N.Actor.machine g.C.Charter.plan g.C.Charter.start in
    record { task = subst (λ (b : Body _). IsTask (part_course r) c.args.name.at.0 c.args.no true b) (sym c.deref_mut.ensures.value) c.requires.task }
