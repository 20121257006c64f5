-- Both sides of a world at one time.
use Rattle.tick_law.specs.Machine.{Machine}
use Rattle.tick_law.specs.SerialLoop.{Start, System}
use Rattle.model_laws.specs.WellFormed.{system}
use Rattle.actor_turn.specs.declared.side.SideGear.{SideGear}

module _ {P N : Type 0} where
  -- the run that begins at a start
  abbrev pub run_of : Machine P → Machine N → SideGear → SideGear → Start P N → System P N
  run_of part link parts links start = system part link parts.wiring links.wiring start
