use Rattle.std.proofs.Common.{length, ap, subst, sym, ◌∙◌}
use Rattle.std.proofs.lemmas.List.{length-map}
use Rattle.tick_law.specs.Pass.{gather, port_at}
use Rattle.tick_law.specs.Wires.{Has, AllApart}
use Rattle.actor_turn.specs.Act.{parts_acting}
use Rattle.actor_turn.proofs.ActLaws.{read_at, acted_wait, acted_edge, ports_still}
use Rattle.actor_turn.proofs.side.SideGear.act_part.Goals as goal

pub returns-in_default-clause-acted : goal.returns-in_default-clause-acted
returns-in_default-clause-acted g c =
    acted_wait g.P.Actor.machine c.args.self.now c.args.turn.now.no c.args.turn.now.t c.period-period.result c.index_mut-part.result.now (parts_acting c.args.world.now c.args.recs.now c.args.steps.now)
    c.requires.can c.index_mut-part.ensures.value c.period-period.ensures.period c.in_default.ensures.none

pub tick_part-requires-clause-within : goal.tick_part-requires-clause-within
tick_part-requires-clause-within g c = λ q h. c.requires.can.wired.within c.args.turn.now.no q (subst (λ l. Has l q) c.own-own.ensures h)

pub tick_part-requires-clause-apart : goal.tick_part-requires-clause-apart
tick_part-requires-clause-apart g c = subst (λ l. AllApart l) (sym c.own-own.ensures) (c.requires.can.wired.apart c.args.turn.now.no)

pub tick_part-requires-clause-own : goal.tick_part-requires-clause-own
tick_part-requires-clause-own g c =
    ap length c.own-own.ensures
    ∙ c.requires.can.count c.index_mut-part.result.now (read_at c.args.world.now.parts.items c.args.turn.now.no c.index_mut-part.result.now c.requires.can.here c.index_mut-part.ensures.value)

pub returns-clause-acted : goal.returns-clause-acted
returns-clause-acted g c =
    let e = c.tick_part.ensures in
    acted_edge g.P.Actor.machine c.args.self.now c.own-own.result.now c.args.turn.now.no c.args.turn.now.t c.period-period.result c.in-Some.cycle c.index_mut-part.result.now c.tick_part.new.part (parts_acting c.args.world.now c.args.recs.now c.args.steps.now) c.begin.new.self c.tick_part.new.self c.tick_part.new.recs c.tick_part.new.steps c.tick_part.result
    c.requires.can c.begin.ensures c.own-own.ensures c.index_mut-part.ensures.value c.period-period.ensures.period c.in-Some.ensures.edge c.in-Some.ensures.number e.long e.state e.ports e.records e.flag e.steps

pub returns-clause-still : goal.returns-clause-still
returns-clause-still g c = λ off.
    let own = c.own-own.result.now in
    let ports = c.args.world.now.rows.ports in
    let s = c.index_mut-part.result.now in
    let long = length-map own (λ q. port_at ports q)
    ∙ ap length c.own-own.ensures
    ∙ c.requires.can.count s (read_at c.args.world.now.parts.items c.args.turn.now.no s c.requires.can.here c.index_mut-part.ensures.value) in
    ports_still g.P.Actor.machine s own c.in-Some.cycle ports c.tick_part.new.self c.args.world.now.rows
    (g.met.P.Actor.quiet s (gather ports own) c.in-Some.cycle c.known.ensures long (sym c.tick_part.ensures.flag ∙ off)) c.tick_part.ensures.ports
