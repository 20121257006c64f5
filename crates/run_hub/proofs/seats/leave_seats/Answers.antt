use Rattle.std.proofs.Common.{◌≡◌, ◌++◌, ◌∷◌, [], length, ap, sym, ◌∙◌, arith}
use Rattle.std.proofs.lemmas.Iterator.Adapters.{YieldsList-from_vec}
use Rattle.std.proofs.lemmas.Iterator.Consumers.{YieldsList-turn}
use Rattle.run_hub.specs.Seats.{actors_in}
use Rattle.run_hub.proofs.SeatsTaken.{left_append, fewer_left}
use Rattle.run_hub.proofs.seats.leave_seats.Goals as goal

pub leave_seat-requires : goal.leave_seat-requires
leave_seat-requires g c =
    let given = c.into_iter-seat-iterator.ensures.into_iter_gives in
    let t = YieldsList-turn (YieldsList-from_vec {s = c.into_iter-seat-iterator.result} c.args.seats.items given.0 (given.1 ∙ (let z = c.args.seats.ok.0 in omega (arith, z)))) c.loop-seat.yielded c.loop-seat.seat-iterator c.loop-seat.yielded_by c.next.result c.next.new.self c.in-Some.seat c.in-Some.is c.next.ensures.steps in
    let few = fewer_left c.loop-seat.yielded in
    let count : length c.loop-seat.home.items ≡ length (actors_in c.loop-seat.yielded) = ap length c.loop-seat.invariant.gone in
    record { room = omega (arith, t.0, few, count, c.loop-seat.invariant.room, c.requires.room) }

pub loop-seat-preserved : goal.loop-seat-preserved
loop-seat-preserved g c = record {
  gone =
      c.leave_seat.ensures.all
      ∙ ap (λ l. l ++ actors_in (c.in-Some.seat ∷ [])) c.loop-seat.invariant.gone
      ∙ sym (left_append c.loop-seat.yielded (c.in-Some.seat ∷ []));
  room = (let a = c.leave_seat.ensures.room in let b = c.loop-seat.invariant.room in omega (arith, a, b));
}
