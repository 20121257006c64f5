use Rattle.std.proofs.Common.{arith}
use Rattle.hub_floor.proofs.Closes.{forgot_seat}
use Rattle.hub_floor.proofs.close.forget_one.Goals as goal

pub rise-body-requires : goal.rise-body-requires
rise-body-requires g c = record { here = c.requires.here }

pub returns : goal.returns
returns g c = λ b e.
    forgot_seat c.args.seats.now.items c.rise-body.new.seats.items c.sit.new.seats.items c.args.no c.rise-body.result.value c.without_records-body.result.value b
    c.rise-body.ensures.body e c.without_records-body.ensures c.rise-body.ensures.seats c.sit.ensures.seats

pub sit-requires : goal.sit-requires
sit-requires g c =
    let b = c.requires.within in
    let l = c.rise-body.ensures.seats.long in
    record { here = omega (arith, b, l) }
