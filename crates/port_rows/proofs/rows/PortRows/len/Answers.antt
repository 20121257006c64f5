use Rattle.std.proofs.Common.{◌≡◌, [], length, sym, ◌∙◌, ap, rules}
use Rattle.port_msg.specs.PortView.{port_view}
use Rattle.port_rows.specs.Rows.{RowsView, ports_in}
use Rattle.port_rows.proofs.RowsLaws.{length-by}
use Rattle.port_rows.proofs.rows.PortRows.len.Goals as goal

pub returns : goal.returns
returns c =
    let count : c.len.result ≡ length c.self.inside.places.items = search rules in
    count ∙ c.self.invariant.tabled ∙ sym (length-by (ports_in c.self.inside.rows.items) c.self.inside.wiring (port_view [] [] 0)) ∙ ap (λ (v : RowsView). length v.ports) c.self.view_is
