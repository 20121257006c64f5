-- What a run has written.
use Rattle.std.specs.Prelude.{ℕ, ◌+◌, ◌-◌, ◌<◌, ◌≤◌, List, Option, Bool}
use Rattle.sim_io.specs.Sink.{Rose, Got, GotPrefix}
use Rattle.tick_law.specs.PlanView.{PlanView}
use Rattle.tick_law.specs.SerialLoop.{System, records_at_time, records_below}
use Rattle.trace_out.specs.Lines.{lines_of, line_count}
use Rattle.run_gear.specs.PlanNames.{names_of}

module _ {P N : Type 0} where
  -- between two looks at a sink it got the lines of what a run of this plan records below d
  abbrev pub GotLines : PlanView P N → System P N → Bool → ℕ → Option (List ℕ) → Option (List ℕ) → Type 0
  GotLines plan r all d old new = Got old new (lines_of (names_of plan) all (records_below r d))

  -- a line of the last time below d was not written: it got the lines of all earlier times, and then a prefix of those of that
  -- time, which has one
  pub record GotSomeLines (plan : PlanView P N) (r : System P N) (all : Bool) (d : ℕ) (old new : Option (List ℕ)) : Type 0 where
    pub behind : 0 < d
    pub one : 0 < line_count all (records_at_time r (d - 1))
    pub held : Option (List ℕ)
    pub earlier : GotLines plan r all (d - 1) old held
    pub prefix : GotPrefix held new (lines_of (names_of plan) all (records_at_time r (d - 1)))

  -- a fault of the sink has cut a run of this plan at boundary d
  abbrev pub IsCut : PlanView P N → System P N → Bool → ℕ → ℕ → ℕ → Option (List ℕ) → Option (List ℕ) → Type 0
  IsCut plan r all d faults faults' old new =
      Rose faults faults' × (d ≤ plan.until + 1) × GotSomeLines plan r all d old new
