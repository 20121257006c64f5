use Rattle.std.proofs.Common.{◌∙◌, ap, length, arith}
use Rattle.port_row.specs.Row.{face_at, face_of}
use Rattle.port_rows.specs.Rows.{other_face, are_parts}
use Rattle.port_rows.proofs.RowsLaws.{number_below, seat_row, seat}
use Rattle.port_rows.proofs.rows.PortRows.has_changed.Goals as goal

pub seat_of-seat-requires-clause-known : goal.seat_of-seat-requires-clause-known
seat_of-seat-requires-clause-known c = number_below c.self.inside.rows.items c.self.inside.wiring c.args.self.now c.args.port c.self.view_is c.requires

pub seat_of-seat-requires-clause-tabled : goal.seat_of-seat-requires-clause-tabled
seat_of-seat-requires-clause-tabled c = ap length c.deref.ensures.value ∙ c.self.invariant.tabled

pub index-row-requires : goal.index-row-requires
index-row-requires c = omega (arith, seat_row c.self.invariant c.self.view_is c.requires c.seat_of-seat.ensures.link)

pub seen-requires : goal.seen-requires
seen-requires c =
    let s = seat c.self.invariant c.self.view_is c.requires c.seat_of-seat.ensures.link c.deref.ensures.value c.seat_of-seat.ensures.place c.index-row.ensures in
    s.within

pub face-requires : goal.face-requires
face-requires c =
    let s = seat c.self.invariant c.self.view_is c.requires c.seat_of-seat.ensures.link c.deref.ensures.value c.seat_of-seat.ensures.place c.index-row.ensures in
    s.within

pub returns : goal.returns
returns c =
    let s = seat c.self.invariant c.self.view_is c.requires c.seat_of-seat.ensures.link c.deref.ensures.value c.seat_of-seat.ensures.place c.index-row.ensures in
    c.is_other_face.ensures
    ∙ ap (λ f. other_face (are_parts c.args.side) f c.face.result) (c.seen.ensures ∙ s.seen)
    ∙ ap (λ f. other_face (are_parts c.args.side) (face_at c.args.self.now.seen c.args.port) f) (c.face.ensures ∙ ap face_of s.port)
