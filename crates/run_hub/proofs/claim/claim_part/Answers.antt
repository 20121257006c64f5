use Rattle.std.proofs.Common.{inl, ap, arith, refl}
use Rattle.tick_law.specs.PlanView.{system_from}
use Rattle.hub_laws.specs.HubState.{HubState}
use Rattle.run_hub.proofs.ClaimLaws.{part_marks_few, nobody_waits, first_waiting, part_goes}
use Rattle.run_hub.proofs.claim.claim_part.Goals as goal

pub count_in-requires : goal.count_in-requires
count_in-requires g c =
    let r = system_from g.P.Actor.machine g.N.Actor.machine g.C.Charter.plan g.C.Charter.start in
    let few = part_marks_few r g.P.Actor.valid g.N.Actor.valid g.C.Charter.plan.until c.args.floor.now c.requires.pass.floor in
    let a = few.0 in
    let b = few.1 in
    omega (arith, a, b)

pub overflow_cast-no : goal.overflow_cast-no
overflow_cast-no g c =
    let r = system_from g.P.Actor.machine g.N.Actor.machine g.C.Charter.plan g.C.Charter.start in
    let a = (part_marks_few r g.P.Actor.valid g.N.Actor.valid g.C.Charter.plan.until c.args.floor.now c.requires.pass.floor).0 in
    let l = c.in-Some.ensures.least.within in
    omega (arith, a, l)

pub returns-in_default-clause-claims : goal.returns-in_default-clause-claims
returns-in_default-clause-claims g c =
    (inl (c.requires.pass.floor.stage_is, record { none_waits = nobody_waits c.args.floor.now.part_marks.waiting c.in_default.ensures.none; out = c.count_in.ensures }), refl)

pub returns-clause-pass : goal.returns-clause-pass
returns-clause-pass g c =
    let r = system_from g.P.Actor.machine g.N.Actor.machine g.C.Charter.plan g.C.Charter.start in
    part_goes r g.P.Actor.valid g.N.Actor.valid g.C.Charter.plan.until c.in-Some.no c.args.floor.now c.part_out-body.new.floor c.requires.pass c.in-Some.ensures.least.within c.part_out-body.ensures.floor c.part_out-body.ensures.event

pub returns-clause-claims : goal.returns-clause-claims
returns-clause-claims g c =
    inl (record {
      stage = c.requires.pass.floor.stage_is;
      phase = refl;
      at = refl;
      first = first_waiting c.args.floor.now.part_marks c.in-Some.no c.in-Some.ensures.least;
      event = c.part_out-body.ensures.event;
    })

pub returns-clause-at : goal.returns-clause-at
returns-clause-at g c = ap (λ (s : HubState). s.at) c.part_out-body.ensures.event
