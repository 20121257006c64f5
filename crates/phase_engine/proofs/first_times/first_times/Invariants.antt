use Rattle.std.proofs.Common.{◌≡◌, ℕ, ◌<◌, ◌≤◌, length}
use Rattle.std.specs.Prelude.{Some, None}
use Rattle.event_queue.specs.NextTimes.{time_of}
use Rattle.phase_engine.proofs.first_times.first_times.Given as goal

abbrev pub invariant-loop-who : goal.invariant-loop-who
invariant-loop-who g l = record {
  all : length l.next ≡ l.actors;
  set : (i : ℕ) → i < l.who → time_of l.next i ≡ Some (record { 0 = 0 });
  unset : (i : ℕ) → l.who ≤ i → time_of l.next i ≡ None;
}
