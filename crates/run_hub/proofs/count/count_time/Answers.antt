use Rattle.std.proofs.Common.{length}
use Rattle.tick_law.specs.PlanView.{system_from}
use Rattle.tick_law.specs.SerialLoop.{records_at_time}
use Rattle.hub_floor.proofs.CloseLaws.{part_here, link_here}
use Rattle.run_hub.specs.Lines.{side_records}
use Rattle.run_hub.proofs.CountLaws.{counted_then}
use Rattle.run_hub.proofs.TimeLines.{time_records}
use Rattle.run_hub.proofs.count.count_time.Goals as goal

pub count_side-requires : goal.count_side-requires
count_side-requires g c =
    let r = system_from g.P.Actor.machine g.N.Actor.machine g.C.Charter.plan g.C.Charter.start in
    record { here = part_here r g.P.Actor.valid g.N.Actor.valid g.C.Charter.plan.until c.args.floor.now c.requires.floor }

pub count_side-requires-2 : goal.count_side-requires-2
count_side-requires-2 g c =
    let r = system_from g.P.Actor.machine g.N.Actor.machine g.C.Charter.plan g.C.Charter.start in
    record { here = link_here r g.P.Actor.valid g.N.Actor.valid g.C.Charter.plan.until c.args.floor.now c.requires.floor c.requires.quiet }

pub returns : goal.returns
returns g c =
    let r = system_from g.P.Actor.machine g.N.Actor.machine g.C.Charter.plan g.C.Charter.start in
    let f = c.args.floor.now in
    counted_then c.args.stats.now c.count_side.new.stats c.count_side-2.new.stats (side_records f.part_marks.back f.parts.items (length f.part_marks.back)) (side_records f.link_marks.back f.links.items (length f.link_marks.back)) (records_at_time r f.at)
    (time_records r g.P.Actor.valid g.N.Actor.valid g.C.Charter.plan.until f c.requires.floor c.requires.quiet) c.count_side.ensures c.count_side-2.ensures
