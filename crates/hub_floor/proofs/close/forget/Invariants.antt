use Rattle.std.proofs.Common.{◌+◌, ◌-◌, ◌≤◌, length}
use Rattle.hub_floor.specs.Forgot.{Forgot}
use Rattle.hub_floor.proofs.close.forget.Given as goal

abbrev pub invariant-loop-no : goal.invariant-loop-no
invariant-loop-no g l = record {
  within : l.at ≤ length l.back;
  forgot : Forgot l.back l.at l.fn.seats.items l.seats.items;
}

abbrev pub decreases-loop-no : goal.decreases-loop-no
decreases-loop-no g l = length l.back + 1 - l.at
