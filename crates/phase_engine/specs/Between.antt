-- What happens from one boundary of a run on.
use Rattle.std.specs.Prelude.{ℕ, ◌+◌, ◌-◌, ◌<◌, List, [], ◌++◌, Option, Bool}
use Rattle.std.proofs.Common.{zero, suc}
use Rattle.port_msg.specs.declared.records.Record.{Record}
use Rattle.sim_io.specs.Sink.{Got, GotPrefix}
use Rattle.tick_law.specs.PlanView.{PlanView}
use Rattle.tick_law.specs.SerialLoop.{System, records_at_time}
use Rattle.trace_out.specs.Lines.{lines_of, line_count}
use Rattle.run_gear.specs.PlanNames.{names_of}

-- the records of so many times from d on
abbrev pub records_over : {P N : Type 0} → System P N → ℕ → ℕ → List Record
records_over r d zero = []
records_over r d (suc k) = records_over r d k ++ records_at_time r (d + k)

-- the records from boundary d to boundary e
abbrev pub records_between : {P N : Type 0} → System P N → ℕ → ℕ → List Record
records_between r d e = records_over r d (e - d)

module _ {P N : Type 0} where
  -- between two looks at a sink it got the lines of what a run of this plan records from d to e
  abbrev pub GotBetween : PlanView P N → System P N → Bool → ℕ → ℕ → Option (List ℕ) → Option (List ℕ) → Type 0
  GotBetween plan r all d e old new =
      Got old new (lines_of (names_of plan) all (records_between r d e))

  -- a line of the last time below e was not written: it got the lines of all earlier times, and then a prefix of those of that
  -- time, which has one
  pub record GotSomeBetween (plan : PlanView P N) (r : System P N) (all : Bool) (d e : ℕ) (old new : Option (List ℕ)) : Type 0 where
    pub behind : d < e
    pub one : 0 < line_count all (records_at_time r (e - 1))
    pub held : Option (List ℕ)
    pub earlier : GotBetween plan r all d (e - 1) old held
    pub prefix : GotPrefix held new (lines_of (names_of plan) all (records_at_time r (e - 1)))
