-- What contracts see of a hub, and what is true of it.
use Rattle.std.specs.Prelude.{◌≡◌, ℕ, ◌≤◌, List, [], length, Option, Bool, vec_capacity}
use Rattle.tick_law.specs.PlanView.{PlanView}
use Rattle.tick_law.specs.SerialLoop.{System}
use Rattle.hub_laws.specs.HubState.{HubState}
use Rattle.hub_floor.specs.declared.floor.Floor.{Floor}
use Rattle.hub_floor.specs.Floor.{hub_state}
use Rattle.run_hub.specs.declared.home.Home.{Home}
use Rattle.run_hub.specs.GoesOn.{TraceView}
use Rattle.run_hub.specs.Written.{IsWritten}
use Rattle.run_hub.specs.Stands.{Stands}

-- its state in the machine of events, and its trace
pub record HubView : Type 0 where
  pub state : HubState
  pub trace : TraceView

module _ {P N : Type 0} where
  abbrev pub hub_view : Floor P N → TraceView → HubView
  hub_view f trace = record { state = hub_state f; trace = trace }

  -- nobody is at home yet, and there is room for all
  pub record HasHome (parts links : ℕ) (home : Home P N) : Type 0 where
    pub no_parts : home.parts.items ≡ []
    pub no_links : home.links.items ≡ []
    pub part_room : parts ≤ vec_capacity home.parts
    pub link_room : links ≤ vec_capacity home.links

  pub record IsHub (r : System P N) (vp : P → Type 0) (vn : N → Type 0) (plan : PlanView P N) (all : Bool) (told : Option (List ℕ)) (faults : ℕ) (f : Floor P N) (until : ℕ) (home : Home P N) (trace : TraceView) : Type 0 where
    pub stands : Stands r vp vn plan.until f
    pub written : IsWritten plan r all told faults f.at f.failed trace
    pub until_is : until ≡ plan.until
    pub home_is : HasHome (length r.start.world.parts) (length r.start.world.links) home
