-- What an actor's turn needs, and what it does.
use Rattle.std.specs.Prelude.{◌≡◌, ℕ, ◌+◌, ◌*◌, ◌^◌, ◌<◌, ◌≤◌, ◌++◌, List, [], length, map, slice_get, slice_index_or, slice_set, Option, Some, Bool}
use Rattle.port_msg.specs.RecView.{RecView, records_at}
use Rattle.sim_base.specs.declared.time.Time.{Time}
use Rattle.sim_base.specs.declared.time.TheConstants.{LATEST_TIME}
use Rattle.tick_law.specs.Machine.{Machine}
use Rattle.tick_law.specs.Wires.{own_of, Wired}
use Rattle.tick_law.specs.WorldPlaces.{SidePlaces, alls}
use Rattle.tick_law.specs.Pass.{Side}
use Rattle.tick_law.specs.Outcomes.{whats_of, flag_of, charge_of}
use Rattle.tick_law.specs.NextTime.{woken}
use Rattle.tick_law.specs.Course.{any_of}
use Rattle.model_laws.specs.Pass.{act_at, side_places}
use Rattle.model_laws.specs.NextTable.{IsTable, next_at_place}
use Rattle.model_laws.specs.SideTimes.{half_of, AreSides}
use Rattle.model_laws.specs.Changed.{changed_of}
use Rattle.port_row.specs.Row.{PortsView, face_of}
use Rattle.port_rows.specs.Rows.{RowsView}
use Rattle.port_rows.specs.declared.world.World.{World}
use Rattle.actor_turn.specs.declared.gear.RowGear.{RowGear}
use Rattle.actor_turn.specs.declared.side.SideGear.{SideGear}
use Rattle.actor_turn.specs.Act.{ActState, side, given, GivesAll}
use Rattle.actor_turn.specs.Side.{times_of, edge_of, wake_time}
use Rattle.actor_turn.specs.Next.{next_seat_of}
use Rattle.actor_turn.specs.Waking.{CanWake}

-- what the turns of one side read and change: its actors, all ports, all next times, records, and how many steps were charged
pub record TurnState (S : Type 0) : Type 0 where
  pub actors : List S
  pub rows : RowsView
  pub next : List (Option Time)
  pub recs : RecView
  pub steps : ℕ

-- the row in hand for part i, at the number of its ports
abbrev pub hand_at : RowGear → ℕ → PortsView
hand_at g i =
    slice_index_or g.hands.items (length (own_of g.parts.wiring i)) (record { ports = []; seen = [] })

-- turns change the next times and the records of a gear, and nothing else
pub record GearStays (old new : RowGear) : Type 0 where
  pub parts : new.parts ≡ old.parts
  pub links : new.links ≡ old.links
  pub hands : new.hands.items ≡ old.hands.items
  pub part_due : new.part_due ≡ old.part_due
  pub link_due : new.link_due ≡ old.link_due

module _ {P N : Type 0} where
  -- what the turns of parts read and change
  abbrev pub parts_in : World P N → RowGear → ℕ → TurnState P
  parts_in w g steps = record { actors = w.parts.items; rows = w.rows; next = g.next; recs = g.recs; steps = steps }

  -- what the turns of links read and change
  abbrev pub links_in : World P N → RowGear → ℕ → TurnState N
  links_in w g steps = record { actors = w.links.items; rows = w.rows; next = g.next; recs = g.recs; steps = steps }

module _ {S : Type 0} where
  -- what its steps read and change
  abbrev pub acting : TurnState S → ActState S
  acting s = record { actors = s.actors; rows = s.rows; recs = s.recs; steps = s.steps }

  -- the side that has turns
  abbrev pub side_in : TurnState S → Side S
  side_in s = side s.actors s.rows.ports

  -- the same, of which each stands in its place
  abbrev pub places_in : TurnState S → SidePlaces S
  places_in s = side_places (alls s.actors) (alls s.rows.ports)

  -- the next times of the side's own actors, in picoseconds
  abbrev pub own_next : SideGear → TurnState S → List (Option ℕ)
  own_next mine s = half_of mine.first (length s.actors) s.next

  -- what the turn of an actor needs
  pub record CanTurn (m : Machine S) (mine others : SideGear) (i t : ℕ) (old : TurnState S) : Type 0 where
    pub here : i < length old.actors
    pub wired : Wired mine.wiring (length old.rows.ports)
    pub rows : length mine.wiring.own ≡ length old.actors
    pub settled : old.rows.seen ≡ map face_of old.rows.ports
    pub count : (s : S) → slice_get old.actors i ≡ Some s → length (own_of mine.wiring i) ≡ m.own s
    pub time : t ≤ LATEST_TIME
    pub room : length old.recs.items + 64 * length (own_of mine.wiring i) ≤ old.recs.room
    pub wakes : CanWake others (length old.rows.ports) old.next
    pub sides : AreSides (length old.next) mine.first (length old.actors) others.first
        (length others.periods.items)
    pub few : mine.first + length old.actors < 2 ^ 32

  -- what an actor's own ports show its other side (true: parts, false: links) has woken those who see a change, and nobody else
  abbrev pub AreWoken : Bool → SideGear → SideGear → ℕ → ℕ → TurnState S → TurnState S → Type 0
  AreWoken part mine others i t old new =
      IsTable (times_of others new.next)
      (λ j. woken (any_of (changed_of part old.rows.ports new.rows.ports (own_of mine.wiring i)) (own_of others.wiring j))
      (edge_of others (wake_time part t) j) (next_at_place (times_of others old.next) j))
      (length others.periods.items)

  -- actor i has had its turn at t: it has stepped, its next time is noted, those to whom its ports show something else are woken
  pub record HasTurned (m : Machine S) (part : Bool) (mine others : SideGear) (i t : ℕ) (old new : TurnState S) (flag : Bool) : Type 0 where
    pub places_are : places_in new ≡ act_at m (own_of mine.wiring i) i t (places_in old)
        (slice_get (alls old.actors) i)
    pub all_actors : length new.actors ≡ length old.actors
    pub wires : new.rows.wires ≡ old.rows.wires
    pub settled : new.rows.seen ≡ map face_of new.rows.ports
    pub long : length new.rows.ports ≡ length old.rows.ports
    pub room : new.recs.room ≡ old.recs.room
    pub records_are : new.recs.items ≡ old.recs.items
        ++ records_at t (mine.first + i) (whats_of (given m (own_of mine.wiring i) i t (acting old)))
    pub flag_is : flag ≡ flag_of (given m (own_of mine.wiring i) i t (acting old))
    pub steps_are : new.steps ≡ old.steps
        + charge_of (given m (own_of mine.wiring i) i t (acting old))
    pub gives_all : GivesAll m (own_of mine.wiring i) i t (acting old)
    pub all_next : length new.next ≡ length old.next
    pub own : own_next mine new ≡ slice_set (own_next mine old) i
        (next_seat_of m t flag (next_at_place (own_next mine old) i) (slice_get new.actors i))
    pub woken_are : AreWoken part mine others i t old new
