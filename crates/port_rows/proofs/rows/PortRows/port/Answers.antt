use Rattle.std.proofs.Common.{◌∙◌, length, ap, arith}
use Rattle.port_rows.proofs.RowsLaws.{number_below, seat_row, seat}
use Rattle.port_rows.proofs.rows.PortRows.port.Goals as goal

pub seat_of-seat-requires-clause-known : goal.seat_of-seat-requires-clause-known
seat_of-seat-requires-clause-known c = number_below c.self.inside.rows.items c.self.inside.wiring c.args.self.now c.args.port c.self.view_is c.requires

pub seat_of-seat-requires-clause-tabled : goal.seat_of-seat-requires-clause-tabled
seat_of-seat-requires-clause-tabled c = ap length c.deref.ensures.value ∙ c.self.invariant.tabled

pub index-row-requires : goal.index-row-requires
index-row-requires c = omega (arith, seat_row c.self.invariant c.self.view_is c.requires c.seat_of-seat.ensures.link)

pub port-requires : goal.port-requires
port-requires c =
    let s = seat c.self.invariant c.self.view_is c.requires c.seat_of-seat.ensures.link c.deref.ensures.value c.seat_of-seat.ensures.place c.index-row.ensures in
    s.within

pub returns : goal.returns
returns c =
    let s = seat c.self.invariant c.self.view_is c.requires c.seat_of-seat.ensures.link c.deref.ensures.value c.seat_of-seat.ensures.place c.index-row.ensures in
    c.port.ensures ∙ s.port
