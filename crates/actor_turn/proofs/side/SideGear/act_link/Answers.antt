use Rattle.std.proofs.Common.{length, ap, sym, ◌∙◌}
use Rattle.tick_law.specs.Wires.{own_of}
use Rattle.actor_turn.specs.Act.{links_acting}
use Rattle.actor_turn.proofs.ActLaws.{read_at, acted_wait, acted_edge}
use Rattle.actor_turn.proofs.side.SideGear.act_link.Goals as goal

pub returns-in_default-clause-acted : goal.returns-in_default-clause-acted
returns-in_default-clause-acted g c =
    acted_wait g.N.Actor.machine c.args.self.now c.args.turn.now.no c.args.turn.now.t c.period-period.result c.index_mut-link.result.now (links_acting c.args.world.now c.args.recs.now c.args.steps.now)
    c.requires.can c.index_mut-link.ensures.value c.period-period.ensures.period c.in_default.ensures.none

pub tick_link-requires-clause-own : goal.tick_link-requires-clause-own
tick_link-requires-clause-own g c =
    sym (ap (λ w. length (own_of w c.args.turn.now.no)) c.requires.wires)
    ∙ c.requires.can.count c.index_mut-link.result.now (read_at c.args.world.now.links.items c.args.turn.now.no c.index_mut-link.result.now c.requires.can.here c.index_mut-link.ensures.value)

pub returns-clause-acted : goal.returns-clause-acted
returns-clause-acted g c =
    let e = c.tick_link.ensures in
    acted_edge g.N.Actor.machine c.args.self.now (own_of c.args.world.now.rows.wires c.args.turn.now.no) c.args.turn.now.no c.args.turn.now.t c.period-period.result c.in-Some.cycle c.index_mut-link.result.now c.tick_link.new.link (links_acting c.args.world.now c.args.recs.now c.args.steps.now) c.begin.new.self c.tick_link.new.self c.tick_link.new.recs c.tick_link.new.steps c.tick_link.result
    c.requires.can c.begin.ensures (sym (ap (λ w. own_of w c.args.turn.now.no) c.requires.wires)) c.index_mut-link.ensures.value c.period-period.ensures.period c.in-Some.ensures.edge c.in-Some.ensures.number e.long e.state e.ports e.records e.flag e.steps
