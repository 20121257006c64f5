use Rattle.std.proofs.Common.{◌+◌, inr, ap, arith, refl}
use Rattle.tick_law.specs.PlanView.{system_from}
use Rattle.hub_laws.specs.HubState.{HubState}
use Rattle.run_hub.proofs.ClaimLaws.{link_marks_few, first_link, nobody_waits, first_waiting, link_goes}
use Rattle.run_hub.proofs.claim.claim_link.Goals as goal

pub count_in-requires : goal.count_in-requires
count_in-requires g c =
    let r = system_from g.P.Actor.machine g.N.Actor.machine g.C.Charter.plan g.C.Charter.start in
    let few = link_marks_few r g.P.Actor.valid g.N.Actor.valid g.C.Charter.plan.until c.args.floor.now c.requires.pass.floor in
    let a = few.0 in
    let b = few.1 in
    omega (arith, a, b)

pub overflow_cast-no : goal.overflow_cast-no
overflow_cast-no g c =
    let r = system_from g.P.Actor.machine g.N.Actor.machine g.C.Charter.plan g.C.Charter.start in
    let a = (link_marks_few r g.P.Actor.valid g.N.Actor.valid g.C.Charter.plan.until c.args.floor.now c.requires.pass.floor).0 in
    let l = c.in-Some.ensures.least.within in
    omega (arith, a, l)

pub returns-in_default-clause-claims : goal.returns-in_default-clause-claims
returns-in_default-clause-claims g c =
    (inr (c.requires.pass.floor.stage_is, record { none_waits = nobody_waits c.args.floor.now.link_marks.waiting c.in_default.ensures.none; out = c.count_in.ensures }), refl)

pub returns-clause-pass : goal.returns-clause-pass
returns-clause-pass g c =
    let r = system_from g.P.Actor.machine g.N.Actor.machine g.C.Charter.plan g.C.Charter.start in
    link_goes r g.P.Actor.valid g.N.Actor.valid g.C.Charter.plan.until c.in-Some.no c.args.floor.now c.link_out-body.new.floor c.requires.pass c.in-Some.ensures.least.within c.link_out-body.ensures.floor c.link_out-body.ensures.event

pub returns-clause-claims : goal.returns-clause-claims
returns-clause-claims g c =
    let r = system_from g.P.Actor.machine g.N.Actor.machine g.C.Charter.plan g.C.Charter.start in
    inr (record {
      number = c.in-Some.no;
      actor = ap (λ n. n + c.in-Some.no) (first_link r g.P.Actor.valid g.N.Actor.valid g.C.Charter.plan.until c.args.floor.now c.requires.pass.floor);
      stage = c.requires.pass.floor.stage_is;
      phase = refl;
      at = refl;
      first = first_waiting c.args.floor.now.link_marks c.in-Some.no c.in-Some.ensures.least;
      event = c.link_out-body.ensures.event;
    })

pub returns-clause-at : goal.returns-clause-at
returns-clause-at g c = ap (λ (s : HubState). s.at) c.link_out-body.ensures.event

pub overflow_add-name : goal.overflow_add-name
overflow_add-name g c =
    let r = system_from g.P.Actor.machine g.N.Actor.machine g.C.Charter.plan g.C.Charter.start in
    let a = (link_marks_few r g.P.Actor.valid g.N.Actor.valid g.C.Charter.plan.until c.args.floor.now c.requires.pass.floor).0 in
    let f = first_link r g.P.Actor.valid g.N.Actor.valid g.C.Charter.plan.until c.args.floor.now c.requires.pass.floor in
    let l = c.in-Some.ensures.least.within in
    omega (arith, a, f, l)
