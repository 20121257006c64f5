-- What is true of a run of a plan at its beginning.
use Rattle.std.specs.Prelude.{◌≡◌, ◌+◌, ◌≤◌, [], length}
use Rattle.sim_base.specs.declared.time.TheConstants.{LATEST_TIME}
use Rattle.tick_law.specs.Machine.{Machine}
use Rattle.tick_law.specs.PlanView.{PlanView, link_wires, start_of, opening}
use Rattle.port_rows.specs.World.{IsFreshWorld}
use Rattle.trace_out.specs.Names.{actors_of}
use Rattle.run_gear.specs.IsGear.{IsGear}
use Rattle.run_gear.specs.PlanNames.{names_of}
use Rattle.run_gear.specs.declared.opened.Opened.{Opened}

pub record IsOpened {P N : Type 0} (mp : Machine P) (mn : Machine N) (vp : P → Type 0) (vn : N → Type 0) (plan : PlanView P N) (o : Opened P N) : Type 0 where
  pub world_is : IsFreshWorld plan.parts plan.links (start_of plan).ports (link_wires plan) o.world
  pub gear_is : IsGear mp mn vp vn plan (opening plan) o.gear
  pub items_are : o.gear.recs.items ≡ []
  pub names_are : o.names ≡ names_of plan
  pub actors_named : actors_of o.names ≡ length plan.parts + length plan.links
  pub until_is : o.until.0 ≡ plan.until
  pub until_within : plan.until ≤ LATEST_TIME
