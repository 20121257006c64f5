use Rattle.std.proofs.Common.{◌≡◌, length, arith, ◌∙◌}
use Rattle.tick_law.specs.PlanView.{system_from}
use Rattle.hub_floor.proofs.FloorGives.{parts_count, links_count}
use Rattle.run_hub.proofs.RunsEnd.{world_left}
use Rattle.run_hub.proofs.ending.world_of.Goals as goal

pub leave_seats-requires : goal.leave_seats-requires
leave_seats-requires g c =
    let r = system_from g.P.Actor.machine g.N.Actor.machine g.C.Charter.plan g.C.Charter.start in
    let f = c.args.floor in
    let is = c.requires.floor in
    let count : length f.parts.items ≡ length r.start.world.parts = is.rest.parts_home.all ∙ parts_count r g.P.Actor.valid g.N.Actor.valid g.C.Charter.plan.until f.at f is.of in
    record { none = c.requires.home.no_parts; room = (let room = c.requires.home.part_room in omega (arith, count, room)) }

pub leave_seats-requires-2 : goal.leave_seats-requires-2
leave_seats-requires-2 g c =
    let r = system_from g.P.Actor.machine g.N.Actor.machine g.C.Charter.plan g.C.Charter.start in
    let f = c.args.floor in
    let is = c.requires.floor in
    let count : length f.links.items ≡ length r.start.world.links = is.rest.links_home.all ∙ links_count r g.P.Actor.valid g.N.Actor.valid g.C.Charter.plan.until f.at f is.of in
    record { none = c.requires.home.no_links; room = (let room = c.requires.home.link_room in omega (arith, count, room)) }

pub returns : goal.returns
returns g c =
    let r = system_from g.P.Actor.machine g.N.Actor.machine g.C.Charter.plan g.C.Charter.start in
    world_left r g.P.Actor.valid g.N.Actor.valid g.C.Charter.plan.until c.args.floor _ _ c.requires.floor c.leave_seats.ensures c.leave_seats-2.ensures
