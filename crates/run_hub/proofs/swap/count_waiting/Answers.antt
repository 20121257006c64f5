use Rattle.std.proofs.Common.{arith}
use Rattle.tick_law.specs.PlanView.{system_from}
use Rattle.run_hub.proofs.ClaimLaws.{part_marks_few, link_marks_few}
use Rattle.run_hub.proofs.OpenClaims.{parts_of_pass, links_of_pass}
use Rattle.run_hub.proofs.swap.count_waiting.Goals as goal

pub count_up_to-requires : goal.count_up_to-requires
count_up_to-requires g c =
    let r = system_from g.P.Actor.machine g.N.Actor.machine g.C.Charter.plan g.C.Charter.start in
    let until = g.C.Charter.plan.until in
    let few = (part_marks_few r g.P.Actor.valid g.N.Actor.valid until c.args.floor.now (parts_of_pass r g.P.Actor.valid g.N.Actor.valid until c.args.floor.now c.requires c.in-Primary.is).floor).0 in
    omega (arith, few)

pub count_up_to-requires-in-Secondary : goal.count_up_to-requires-in-Secondary
count_up_to-requires-in-Secondary g c =
    let r = system_from g.P.Actor.machine g.N.Actor.machine g.C.Charter.plan g.C.Charter.start in
    let until = g.C.Charter.plan.until in
    let few = (link_marks_few r g.P.Actor.valid g.N.Actor.valid until c.args.floor.now (links_of_pass r g.P.Actor.valid g.N.Actor.valid until c.args.floor.now c.requires c.in-Secondary.is).floor).0 in
    omega (arith, few)
