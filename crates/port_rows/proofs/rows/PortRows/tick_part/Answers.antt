use Rattle.std.proofs.Common.{◌≡◌, length, ◌∙◌, ap, arith}
use Rattle.port_row.specs.Row.{PortsView}
use Rattle.std.proofs.lemmas.List.{length-map}
use Rattle.tick_law.specs.Pass.{gather, port_at}
use Rattle.model_laws.specs.Pass.{scatter}
use Rattle.model_laws.proofs.OneMoreActor.{length-scatter}
use Rattle.port_rows.specs.Rows.{RowsView}
use Rattle.port_rows.proofs.RowsLaws.{scatter_twice, gather_scatter}
use Rattle.port_rows.proofs.rows.PortRows.tick_part.Goals as goal

pub lend-requires-2-clause-within : goal.lend-requires-2-clause-within
lend-requires-2-clause-within g c = λ q h. omega (arith, c.requires.within q h, ap (λ (v : RowsView). length v.ports) c.lend.ensures.here, length-scatter c.args.self.now.ports c.args.own.now c.args.hand.now.ports)

pub returns-clause-ports : goal.returns-clause-ports
returns-clause-ports g c =
    let own = c.args.own.now in
    let left = c.tick-flag.new.ports.ports in
    let long : length own ≡ length left = omega (arith, c.tick-flag.ensures.long, ap (λ (r : PortsView). length r.ports) c.lend.ensures.there, length-map own (λ q. port_at c.args.self.now.ports q)) in
    c.lend-2.ensures.here
    ∙ ap (λ (v : RowsView). let x : RowsView = record v { ports = scatter v.ports own left } in x) c.lend.ensures.here
    ∙ ap (λ l. let x : RowsView = record c.args.self.now { ports = l } in x) (
    scatter_twice c.args.self.now.ports own c.args.hand.now.ports left c.requires.same long
    ∙ ap (scatter c.args.self.now.ports own) (ap (λ (r : PortsView). r.ports) c.tick-flag.ensures.ports ∙ ap (λ (r : PortsView). (g.P.Actor.machine.step c.args.part.now r.ports c.args.cycle).ports) c.lend.ensures.there))

pub returns-clause-hand : goal.returns-clause-hand
returns-clause-hand g c =
    let own = c.args.own.now in
    c.lend-2.ensures.there
    ∙ ap (λ (v : RowsView). let x : PortsView = record c.tick-flag.new.ports { ports = gather v.ports own } in x) c.lend.ensures.here
    ∙ ap (λ l. let x : PortsView = record c.tick-flag.new.ports { ports = l } in x) (gather_scatter c.args.self.now.ports own c.args.hand.now.ports c.requires.apart c.requires.same c.requires.within)
    ∙ ap (λ s. let x : PortsView = record { ports = c.args.hand.now.ports; seen = s } in x) (ap (λ (r : PortsView). r.seen) c.tick-flag.ensures.ports ∙ ap (λ (r : PortsView). r.seen) c.lend.ensures.there)
