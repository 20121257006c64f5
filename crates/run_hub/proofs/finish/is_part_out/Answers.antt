use Rattle.std.proofs.Common.{subst, arith}
use Rattle.tick_law.specs.PlanView.{system_from}
use Rattle.hub_laws.specs.declared.stage.Stage.{Stage}
use Rattle.run_hub.specs.Stands.{PartsOpen, StandsAt}
use Rattle.run_hub.proofs.ClaimLaws.{part_seats}
use Rattle.run_hub.proofs.finish.is_part_out.Goals as goal

pub has-out-requires : goal.has-out-requires
has-out-requires g c =
    let r = system_from g.P.Actor.machine g.N.Actor.machine g.C.Charter.plan g.C.Charter.start in
    let f = c.args.floor.now in
    let is : PartsOpen r g.P.Actor.valid g.N.Actor.valid g.C.Charter.plan.until f = subst (λ (s : Stage). StandsAt s r g.P.Actor.valid g.N.Actor.valid g.C.Charter.plan.until f) c.in-Primary.is c.requires in
    let n = part_seats r g.P.Actor.valid g.N.Actor.valid g.C.Charter.plan.until f is.floor in
    omega (arith, n, f.parts.ok.0, c.len.ensures)
