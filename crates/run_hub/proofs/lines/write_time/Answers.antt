use Rattle.std.proofs.Common.{length, ◌∙◌, arith}
use Rattle.tick_law.specs.PlanView.{system_from}
use Rattle.tick_law.specs.SerialLoop.{records_at_time}
use Rattle.hub_floor.proofs.CloseLaws.{part_here, link_here}
use Rattle.run_gear.proofs.LineLaws.{lines_grow, rose_later}
use Rattle.run_hub.specs.Lines.{side_records}
use Rattle.run_hub.proofs.SideLines.{prefix_first, prefix_grow, some_first, some_last}
use Rattle.run_hub.proofs.TimeLines.{part_known, link_known, time_records}
use Rattle.run_hub.proofs.lines.write_time.Goals as goal

pub write_side-requires-clause-here : goal.write_side-requires-clause-here
write_side-requires-clause-here g c =
    let r = system_from g.P.Actor.machine g.N.Actor.machine g.C.Charter.plan g.C.Charter.start in
    part_here r g.P.Actor.valid g.N.Actor.valid g.C.Charter.plan.until c.args.floor.now c.requires.floor

pub write_side-requires-clause-known : goal.write_side-requires-clause-known
write_side-requires-clause-known g c =
    let r = system_from g.P.Actor.machine g.N.Actor.machine g.C.Charter.plan g.C.Charter.start in
    part_known r g.P.Actor.valid g.N.Actor.valid g.C.Charter.plan.until _ c.args.floor.now c.requires.floor c.requires.named

pub write_side-requires-2-clause-here : goal.write_side-requires-2-clause-here
write_side-requires-2-clause-here g c =
    let r = system_from g.P.Actor.machine g.N.Actor.machine g.C.Charter.plan g.C.Charter.start in
    link_here r g.P.Actor.valid g.N.Actor.valid g.C.Charter.plan.until c.args.floor.now c.requires.floor c.requires.quiet

pub write_side-requires-2-clause-known : goal.write_side-requires-2-clause-known
write_side-requires-2-clause-known g c =
    let r = system_from g.P.Actor.machine g.N.Actor.machine g.C.Charter.plan g.C.Charter.start in
    link_known r g.P.Actor.valid g.N.Actor.valid g.C.Charter.plan.until _ c.args.floor.now c.requires.floor c.requires.quiet c.requires.named

pub returns-then-not-write_side-clause-part : goal.returns-then-not-write_side-clause-part
returns-then-not-write_side-clause-part g c = λ failed.
    let r = system_from g.P.Actor.machine g.N.Actor.machine g.C.Charter.plan g.C.Charter.start in
    let f = c.args.floor.now in
    let t = c.args.trace.now in
    prefix_first t.names t.all (side_records f.part_marks.back f.parts.items (length f.part_marks.back)) (side_records f.link_marks.back f.links.items (length f.link_marks.back)) (records_at_time r f.at) (g.K.Sink.told t.sink) (g.K.Sink.told c.write_side.new.sink)
    (time_records r g.P.Actor.valid g.N.Actor.valid g.C.Charter.plan.until f c.requires.floor c.requires.quiet) (c.write_side.ensures.part c.if-not-write_side.true)

pub returns-clause-whole : goal.returns-clause-whole
returns-clause-whole g c = λ all.
    let r = system_from g.P.Actor.machine g.N.Actor.machine g.C.Charter.plan g.C.Charter.start in
    let f = c.args.floor.now in
    let t = c.args.trace.now in
    lines_grow t.names t.all (side_records f.part_marks.back f.parts.items (length f.part_marks.back)) (side_records f.link_marks.back f.links.items (length f.link_marks.back)) (records_at_time r f.at) (g.K.Sink.told t.sink) (g.K.Sink.told c.write_side.new.sink) (g.K.Sink.told c.write_side-2.new.sink)
    (time_records r g.P.Actor.valid g.N.Actor.valid g.C.Charter.plan.until f c.requires.floor c.requires.quiet) (c.write_side.ensures.whole c.if-not-write_side.false) (c.write_side-2.ensures.whole all)

pub returns-clause-part : goal.returns-clause-part
returns-clause-part g c = λ failed.
    let r = system_from g.P.Actor.machine g.N.Actor.machine g.C.Charter.plan g.C.Charter.start in
    let f = c.args.floor.now in
    let t = c.args.trace.now in
    prefix_grow t.names t.all (side_records f.part_marks.back f.parts.items (length f.part_marks.back)) (side_records f.link_marks.back f.links.items (length f.link_marks.back)) (records_at_time r f.at) (g.K.Sink.told t.sink) (g.K.Sink.told c.write_side.new.sink) (g.K.Sink.told c.write_side-2.new.sink)
    (time_records r g.P.Actor.valid g.N.Actor.valid g.C.Charter.plan.until f c.requires.floor c.requires.quiet) (c.write_side.ensures.whole c.if-not-write_side.false) (c.write_side-2.ensures.part failed)

pub returns-then-not-write_side-clause-some : goal.returns-then-not-write_side-clause-some
returns-then-not-write_side-clause-some g c = λ failed.
    let r = system_from g.P.Actor.machine g.N.Actor.machine g.C.Charter.plan g.C.Charter.start in
    let f = c.args.floor.now in
    some_first c.args.trace.now.all (side_records f.part_marks.back f.parts.items (length f.part_marks.back)) (side_records f.link_marks.back f.links.items (length f.link_marks.back)) (records_at_time r f.at)
    (time_records r g.P.Actor.valid g.N.Actor.valid g.C.Charter.plan.until f c.requires.floor c.requires.quiet) (c.write_side.ensures.some c.if-not-write_side.true)

pub returns-clause-some : goal.returns-clause-some
returns-clause-some g c = λ failed.
    let r = system_from g.P.Actor.machine g.N.Actor.machine g.C.Charter.plan g.C.Charter.start in
    let f = c.args.floor.now in
    some_last c.args.trace.now.all (side_records f.part_marks.back f.parts.items (length f.part_marks.back)) (side_records f.link_marks.back f.links.items (length f.link_marks.back)) (records_at_time r f.at)
    (time_records r g.P.Actor.valid g.N.Actor.valid g.C.Charter.plan.until f c.requires.floor c.requires.quiet) (c.write_side-2.ensures.some failed)

pub returns-clause-fault : goal.returns-clause-fault
returns-clause-fault g c = λ failed. rose_later (g.K.Sink.faults c.args.trace.now.sink) (g.K.Sink.faults c.write_side.new.sink) (g.K.Sink.faults c.write_side-2.new.sink) c.write_side.ensures.never_falls (c.write_side-2.ensures.fault failed)

pub returns-clause-never_falls : goal.returns-clause-never_falls
returns-clause-never_falls g c = let a = c.write_side.ensures.never_falls in let b = c.write_side-2.ensures.never_falls in omega (arith, a, b)

pub returns-clause-telling : goal.returns-clause-telling
returns-clause-telling g c = c.write_side-2.ensures.telling ∙ c.write_side.ensures.telling
