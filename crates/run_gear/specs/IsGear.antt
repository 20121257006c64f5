-- What is true of the gear of a run of a plan from a start, as long as it runs.
use Rattle.std.specs.Prelude.{◌≡◌, ℕ, ◌+◌, ◌*◌, ◌^◌, ◌<◌, ◌≤◌, length}
use Rattle.tick_law.specs.Machine.{Machine}
use Rattle.tick_law.specs.Wires.{own_of}
use Rattle.tick_law.specs.SerialLoop.{Start}
use Rattle.tick_law.specs.PlanView.{PlanView, part_wires, link_wires, system_from}
use Rattle.model_laws.specs.Outcome.{own_to}
use Rattle.model_laws.specs.Fitted.{Fitted}
use Rattle.port_rows.specs.Opening.{AreHands}
use Rattle.actor_turn.specs.Side.{AreInOrder}
use Rattle.run_gear.specs.declared.gear.Gear.{Gear}

pub record IsGear {P N : Type 0} (mp : Machine P) (mn : Machine N) (vp : P → Type 0) (vn : N → Type 0) (plan : PlanView P N) (start : Start P N) (g : Gear) : Type 0 where
  pub part_wires_are : g.parts.wiring ≡ part_wires plan
  pub link_wires_are : g.links.wiring ≡ link_wires plan
  pub order : AreInOrder g.parts g.links (length start.world.parts + length start.world.links)
  pub fitted : Fitted (system_from mp mn plan start) vp vn g.recs.room g.recs.room
      g.parts.periods.items g.links.periods.items
  pub hands_are : AreHands g.hands.items (part_wires plan) (length start.world.parts)
  pub enough : 64 * (own_to (part_wires plan) (length start.world.parts)
      + own_to (link_wires plan) (length start.world.links)) ≤ g.recs.room
  pub part_short : (i : ℕ) → length (own_of (part_wires plan) i) < 2 ^ 32
  pub link_short : (j : ℕ) → length (own_of (link_wires plan) j) < 2 ^ 32
