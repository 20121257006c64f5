-- What an actor's step needs, and what it does.
use Rattle.std.specs.Prelude.{◌≡◌, ℕ, ◌+◌, ◌*◌, ◌/◌, ◌%◌, ◌==◌, ◌^◌, ◌<◌, ◌≤◌, ◌++◌, List, length, slice_get, Option, Some, Bool, IsTrue}
use Rattle.sim_base.specs.declared.time.TheConstants.{LATEST_TICK}
use Rattle.port_msg.specs.PortView.{PortView}
use Rattle.port_msg.specs.RecView.{RecView, records_at}
use Rattle.tick_law.specs.Machine.{Machine, Outcome}
use Rattle.tick_law.specs.Wires.{own_of, Has, Wired}
use Rattle.tick_law.specs.WorldPlaces.{WorldPlaces, SidePlaces, alls}
use Rattle.tick_law.specs.Pass.{Side, gather, port_at}
use Rattle.tick_law.specs.Outcomes.{whats_of, flag_of, charge_of}
use Rattle.model_laws.specs.Pass.{act_at, side_places}
use Rattle.model_laws.specs.Outcome.{outcome_at}
use Rattle.port_rows.specs.Rows.{RowsView}
use Rattle.port_rows.specs.declared.world.World.{World}
use Rattle.actor_turn.specs.declared.side.SideGear.{SideGear}

-- what the steps of one side read and change: its actors, all ports, records, and how many steps were charged
pub record ActState (S : Type 0) : Type 0 where
  pub actors : List S
  pub rows : RowsView
  pub recs : RecView
  pub steps : ℕ

module _ {P N : Type 0} where
  -- a world of which each stands in its place
  abbrev pub whole : List P → List N → List PortView → WorldPlaces P N
  whole parts links ports = record { parts = alls parts; links = alls links; ports = alls ports }

  -- what the steps of parts read and change
  abbrev pub parts_acting : World P N → RecView → ℕ → ActState P
  parts_acting w recs steps = record { actors = w.parts.items; rows = w.rows; recs = recs; steps = steps }

  -- what the steps of links read and change
  abbrev pub links_acting : World P N → RecView → ℕ → ActState N
  links_acting w recs steps = record { actors = w.links.items; rows = w.rows; recs = recs; steps = steps }

module _ {S : Type 0} where
  -- one side of a world
  abbrev pub side : List S → List PortView → Side S
  side states ports = record { states = states; ports = ports }

  -- the side that steps
  abbrev pub side_acting : ActState S → Side S
  side_acting s = side s.actors s.rows.ports

  -- the same, of which each stands in its place
  abbrev pub places_acting : ActState S → SidePlaces S
  places_acting s = side_places (alls s.actors) (alls s.rows.ports)

  -- what actor i gives at t, or None where it has no edge then
  abbrev pub given : Machine S → List ℕ → ℕ → ℕ → ActState S → Option (Outcome S)
  given m own i t s = outcome_at m own t s.rows.ports (slice_get (alls s.actors) i)

  -- a step gives back as many ports as it takes
  abbrev pub GivesAll : Machine S → List ℕ → ℕ → ℕ → ActState S → Type 0
  GivesAll m own i t old =
      (s : S) → slice_get (alls old.actors) i ≡ Some (Some s) → IsTrue (t % m.period s == 0) →
      length (m.step s (gather old.rows.ports own) (t / m.period s)).ports ≡ length own

  -- what the step of actor i of a side needs
  pub record CanAct (m : Machine S) (mine : SideGear) (i t : ℕ) (old : ActState S) : Type 0 where
    pub here : i < length old.actors
    pub rows : length mine.wiring.own ≡ length old.actors
    pub wired : Wired mine.wiring (length old.rows.ports)
    pub count : (s : S) → slice_get old.actors i ≡ Some s → length (own_of mine.wiring i) ≡ m.own s
    pub time : t ≤ LATEST_TICK
    pub room : length old.recs.items + 64 * length (own_of mine.wiring i) ≤ old.recs.room
    pub few : mine.first + length old.actors < 2 ^ 32

  -- actor i has stepped at t with its own ports, where it has an edge then, and else nothing has changed
  pub record HasActed (m : Machine S) (mine : SideGear) (i t : ℕ) (old new : ActState S) (flag : Bool) : Type 0 where
    pub places_are : places_acting new
        ≡ act_at m (own_of mine.wiring i) i t (places_acting old) (slice_get (alls old.actors) i)
    pub all_actors : length new.actors ≡ length old.actors
    pub seen : new.rows.seen ≡ old.rows.seen
    pub wires : new.rows.wires ≡ old.rows.wires
    pub long : length new.rows.ports ≡ length old.rows.ports
    pub others : (q : ℕ) → (Has (own_of mine.wiring i) q → ⊥) → port_at new.rows.ports q
        ≡ port_at old.rows.ports q
    pub room : new.recs.room ≡ old.recs.room
    pub records_are : new.recs.items
        ≡ old.recs.items
        ++ records_at t (mine.first + i) (whats_of (given m (own_of mine.wiring i) i t old))
    pub flag_is : flag ≡ flag_of (given m (own_of mine.wiring i) i t old)
    pub steps_are : new.steps ≡ old.steps + charge_of (given m (own_of mine.wiring i) i t old)
    pub gives_all : GivesAll m (own_of mine.wiring i) i t old
