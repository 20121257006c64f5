use Rattle.std.proofs.Common.{◌≡◌, ◌≤◌}
use Rattle.std.specs.Prelude.{vec_capacity}
use Rattle.run_hub.specs.Seats.{actors_in}
use Rattle.run_hub.proofs.seats.leave_seats.Given as goal

abbrev pub invariant-loop-seat : goal.invariant-loop-seat
invariant-loop-seat g l = record {
  gone : l.home.items ≡ actors_in l.yielded;
  room : vec_capacity l.initial.home ≤ vec_capacity l.home;
}
