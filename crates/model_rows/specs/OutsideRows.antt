-- Counts of faults of the outside before and after a call.
use Rattle.std.specs.Prelude.{◌-◌, ◌^◌}
use Rattle.sim_io.specs.Sink.{Rose}

pub record Rising : Type 0 where
  pub stays : Rose 0 0 → ⊥
  pub by_one : Rose 0 1
  pub by_two : Rose 0 2
  pub falls : Rose 2 1 → ⊥
  -- the greatest number of 64 bits stands still
  pub greatest : Rose (2 ^ 64 - 1) (2 ^ 64 - 1)
  pub below_greatest : Rose (2 ^ 64 - 2) (2 ^ 64 - 2) → ⊥
