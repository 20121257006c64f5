-- What is true of the gear of a sleeping run.
use Rattle.std.specs.Prelude.{◌≡◌, ℕ, ◌+◌, ◌*◌, ◌≤◌, List, length, Option, Some}
use Rattle.sim_base.specs.declared.time.Time.{Time}
use Rattle.event_queue.specs.NextTimes.{time_of}
use Rattle.tick_law.specs.Machine.{Machine}
use Rattle.tick_law.specs.SerialLoop.{Start, System}
use Rattle.tick_law.specs.WorldPlaces.{WorldPlaces}
use Rattle.tick_law.specs.Verdict.{part_next, link_next}
use Rattle.tick_law.specs.PlanView.{PlanView, part_wires, link_wires, system_from}
use Rattle.model_laws.specs.Outcome.{own_to}
use Rattle.model_laws.specs.Fitted.{Fitted}
use Rattle.model_laws.specs.Boundary.{IsBoundary}
use Rattle.model_laws.specs.NextTable.{IsTable}
use Rattle.model_laws.specs.SideTimes.{half_of}
use Rattle.port_rows.specs.declared.world.World.{World}
use Rattle.actor_turn.specs.Act.{whole}
use Rattle.actor_turn.specs.Ready.{IsReady}
use Rattle.actor_turn.specs.declared.gear.RowGear.{RowGear}

-- somebody's next time is not behind t
abbrev pub IsDueBy : List (Option Time) → ℕ → Type 0
IsDueBy times t = (i : ℕ) × (at : Time) × (time_of times i ≡ Some at) × (at.0 ≤ t)

module _ {P N : Type 0} where
  -- at every boundary: the gear is that of the plan, and ready for the world
  pub record IsRunGear (mp : Machine P) (mn : Machine N) (vp : P → Type 0) (vn : N → Type 0) (plan : PlanView P N) (start : Start P N) (w : World P N) (g : RowGear) : Type 0 where
    pub part_wires_are : g.parts.wiring ≡ part_wires plan
    pub link_wires_are : g.links.wiring ≡ link_wires plan
    pub fitted : Fitted (system_from mp mn plan start) vp vn g.recs.room g.recs.room
        g.parts.periods.items g.links.periods.items
    pub ready : IsReady g (length w.parts.items) (length w.links.items) w.rows
    pub enough : 64 * (own_to (part_wires plan) (length start.world.parts)
        + own_to (link_wires plan) (length start.world.links)) ≤ g.recs.room

  -- each item of a world in its place
  abbrev pub places_of : World P N → WorldPlaces P N
  places_of w = whole w.parts.items w.links.items w.rows.ports

  -- the world is the serial loop's at boundary d, and the next times of all actors, the parts' first, are the run's there
  abbrev pub IsAt : Machine P → Machine N → PlanView P N → Start P N → ℕ → World P N → List (Option Time) → Type 0
  IsAt mp mn plan start d w next =
      IsBoundary (system_from mp mn plan start) d (places_of w)
      (half_of 0 (length start.world.parts) next)
      (half_of (length start.world.parts) (length start.world.links) next)

  -- the next times of all actors, the parts' first, are the run's at boundary d
  pub record AreNextTimes (r : System P N) (d : ℕ) (next : List (Option Time)) : Type 0 where
    pub parts_are : IsTable (half_of 0 (length r.start.world.parts) next) (part_next r d)
        (length r.start.world.parts)
    pub links_are : IsTable (half_of (length r.start.world.parts) (length r.start.world.links) next)
        (link_next r d) (length r.start.world.links)
