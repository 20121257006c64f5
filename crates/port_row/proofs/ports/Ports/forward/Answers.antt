use Rattle.std.proofs.Common.{ap, ◌∙◌}
use Rattle.port_row.specs.Row.{PortsView, out_taken, with_ports}
use Rattle.port_row.proofs.RowLaws.{deliver_then_take}
use Rattle.port_row.proofs.ports.Ports.forward.Goals as goal

pub returns-clause-moved : goal.returns-clause-moved
returns-clause-moved c =
    let old = c.args.self.now in
    c.out_take.ensures.rest
    ∙ ap (λ (r : PortsView). with_ports r (out_taken r.ports c.args.from)) c.in-Ok.ensures.delivered
    ∙ ap (with_ports old) (deliver_then_take old.ports c.args.from c.args.to c.in-Some.msg)
