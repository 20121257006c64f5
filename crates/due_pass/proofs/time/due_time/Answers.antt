use Rattle.std.proofs.Common.{◌∙◌}
use Rattle.due_pass.proofs.TimeLaws.{TimeDone, parts_can, links_can, time_passed}
use Rattle.due_pass.proofs.time.due_time.Given.{Over}
use Rattle.due_pass.proofs.time.due_time.Goals as goal

pub pass_due_parts-parts-requires-clause-can : goal.pass_due_parts-parts-requires-clause-can
pass_due_parts-parts-requires-clause-can g c =
    let r = c.requires in
    parts_can g.P.Actor.machine g.N.Actor.machine g.C.Charter.start g.P.Actor.valid g.N.Actor.valid c.args.t c.args.steps.now c.args.world.now c.args.gear.now
    (record { fitted = r.fitted; boundary = r.boundary; ready = r.ready; time = r.time; room = r.room })

pub pass_due_links-links-requires-clause-can : goal.pass_due_links-links-requires-clause-can
pass_due_links-links-requires-clause-can g c =
    let r = c.requires in
    let one = c.pass_due_parts-parts in
    links_can g.P.Actor.machine g.N.Actor.machine g.C.Charter.start g.P.Actor.valid g.N.Actor.valid c.args.t c.args.steps.now one.new.steps c.args.world.now one.new.world c.args.gear.now one.new.gear one.result
    (record { fitted = r.fitted; boundary = r.boundary; ready = r.ready; time = r.time; room = r.room })
    (record { passed = one.ensures.passed; links = one.ensures.links; due = one.ensures.due; stays = one.ensures.stays })

-- both passes make a time of the run
done : (g : Over) (c : goal.After-either g) → TimeDone g.P.Actor.machine g.N.Actor.machine g.C.Charter.start c.args.t c.args.gear.now.parts c.args.gear.now.links c.pass_due_links-links.new.world.parts.items c.pass_due_links-links.new.world.links.items c.pass_due_links-links.new.world.rows.ports c.pass_due_links-links.new.gear.next c.args.gear.now.recs.items c.pass_due_links-links.new.gear.recs.items c.pass_due_parts-parts.result c.pass_due_links-links.result c.args.steps.now c.pass_due_links-links.new.steps
done g c =
    let r = c.requires in
    let one = c.pass_due_parts-parts in
    let two = c.pass_due_links-links in
    time_passed g.P.Actor.machine g.N.Actor.machine g.C.Charter.start g.P.Actor.valid g.N.Actor.valid c.args.t c.args.steps.now one.new.steps two.new.steps c.args.world.now one.new.world two.new.world c.args.gear.now one.new.gear two.new.gear one.result two.result
    (record { fitted = r.fitted; boundary = r.boundary; ready = r.ready; time = r.time; room = r.room })
    (record { passed = one.ensures.passed; links = one.ensures.links; due = one.ensures.due; stays = one.ensures.stays })
    (record { passed = two.ensures.passed; parts = two.ensures.parts; due = two.ensures.due; stays = two.ensures.stays })

pub returns-clause-boundary : goal.returns-clause-boundary
returns-clause-boundary g c = (done g c).boundary

pub returns-clause-records : goal.returns-clause-records
returns-clause-records g c = (done g c).records_are

pub returns-clause-flag : goal.returns-clause-flag
returns-clause-flag g c = c.either.ensures ∙ (done g c).flag_is

pub returns-clause-steps : goal.returns-clause-steps
returns-clause-steps g c = (done g c).steps_are
