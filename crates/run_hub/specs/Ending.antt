-- How the run of a hub ends, and what is reached of it.
use Rattle.std.specs.Prelude.{ℕ, ◌||◌, nat_lt, Option, Some, None, Bool, true, false}
use Rattle.sim_base.specs.declared.time.Time.{Time}
use Rattle.tick_law.specs.SerialLoop.{pick}
use Rattle.hub_laws.specs.HubState.{HubState}
use Rattle.hub_laws.specs.Events.{is_over}

-- this, or none where a write failed
abbrev pub unless : {A : Type 0} → Bool → A → Option A
unless true a = None
unless false a = Some a

-- the boundary of a hub that is past t or over, or none
abbrev pub reached : HubState → ℕ → Option Time
reached s t = pick (nat_lt t s.at || is_over s.stage) (Some (record { 0 = s.at })) None
