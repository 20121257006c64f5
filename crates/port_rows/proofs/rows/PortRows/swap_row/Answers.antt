use Rattle.std.proofs.Common.{◌≡◌, length, sym, ◌∙◌, ap, arith}
use Rattle.port_row.specs.Row.{PortsView}
use Rattle.tick_law.specs.Wires.{own_of}
use Rattle.port_rows.specs.Rows.{RowsView, with_row}
use Rattle.port_rows.proofs.RowsLaws.{link_row, row_found, row_put, row_gone}
use Rattle.port_rows.proofs.rows.PortRows.swap_row.Goals as goal

pub invariant_of-self : goal.invariant_of-self
invariant_of-self c =
    let own = ap (λ (v : RowsView). length (own_of v.wires c.args.no)) c.self.view_is in
    (row_put c.self.invariant c.self.view_is (link_row c.self.invariant c.self.view_is c.requires.here) c.swap.new.x
    (ap (λ (r : PortsView). length r.ports) c.swap.ensures.x_after ∙ c.requires.same ∙ sym own)
    (ap (λ (r : PortsView). length r.seen) c.swap.ensures.x_after ∙ c.requires.seen ∙ sym own)).seated

pub returns-clause-here : goal.returns-clause-here
returns-clause-here c =
    let own = ap (λ (v : RowsView). length (own_of v.wires c.args.no)) c.self.view_is in
    (row_put c.self.invariant c.self.view_is (link_row c.self.invariant c.self.view_is c.requires.here) c.swap.new.x
    (ap (λ (r : PortsView). length r.ports) c.swap.ensures.x_after ∙ c.requires.same ∙ sym own)
    (ap (λ (r : PortsView). length r.seen) c.swap.ensures.x_after ∙ c.requires.seen ∙ sym own)).view
    ∙ ap (λ r. with_row c.args.self.now c.args.no r) c.swap.ensures.x_after

pub returns-clause-there : goal.returns-clause-there
returns-clause-there c =
    c.swap.ensures.y_after
    ∙ row_gone c.self.invariant c.self.view_is (row_found c.self.invariant c.self.view_is c.requires.here c.index_mut.ensures.value)
