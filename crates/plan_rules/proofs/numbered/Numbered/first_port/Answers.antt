use Rattle.std.proofs.Common.{◌≡◌, ◌≤◌, ◌<◌, ◌+◌, arith, ap, length, refl}
use Rattle.std.proofs.lemmas.List.{get_or_read_under}
use Rattle.sim_config.specs.Tables.{PlanTables}
use Rattle.plan_rules.proofs.Few.{first_port_le}
use Rattle.plan_rules.proofs.numbered.Numbered.first_port.Goals as goal

pub returns-clause-few : goal.returns-clause-few
returns-clause-few c =
    let firsts = c.self.invariant.firsts in
    let count : length c.self.inside.text.now.parts ≡ length c.items.result.now = cc in
    let within : c.min.result ≤ length c.self.inside.text.now.parts = omega (arith, count, c.min.ensures) in
    let read = get_or_read_under c.self.inside.first_ports.items c.min.result (length c.self.inside.first_ports.items) c.index.result.now 0 c.index.ensures (omega (arith, within, firsts.count)) refl in
    omega (arith, read, firsts.each c.min.result within, first_port_le c.self.inside.text.now c.min.result, c.self.invariant.few.ports)
