-- Actors in their seats, and away from them.
use Rattle.std.specs.Prelude.{◌≡◌, ◌≢◌, ℕ, ◌*◌, ◌/◌, ◌≤◌, ◌<◌, ◌⊎◌, List, length, Option, Some, None, Bool, true, false, slice_get, Box}
use Rattle.std.proofs.Common.{Global}
use Rattle.bit_set.specs.Bits.{is_in}
use Rattle.port_msg.specs.PortView.{PortView}
use Rattle.port_msg.specs.RecView.{appended_all}
use Rattle.port_msg.specs.declared.records.Record.{Record}
use Rattle.port_row.specs.Row.{PortsView, with_ports, face_at, face_of}
use Rattle.port_rows.specs.Rows.{RowsView}
use Rattle.tick_law.specs.Machine.{Machine, Outcome}
use Rattle.tick_law.specs.Wires.{Wires, own_of, owner_of}
use Rattle.tick_law.specs.Pass.{port_at}
use Rattle.away_rows.specs.declared.body.Body.{Body}

module _ {S : Type 0} where
  -- what a seat has
  abbrev pub sitting : Option (Option (Box (Body S) Global)) → Option (Body S)
  sitting None = None
  sitting (Some None) = None
  sitting (Some (Some b)) = Some b.value

  abbrev pub body_at : List (Option (Box (Body S) Global)) → ℕ → Option (Body S)
  body_at seats i = sitting (slice_get seats i)

  -- the step that an actor makes at its edge t, with the ports that it took along
  abbrev pub body_step : Machine S → ℕ → Body S → Outcome S
  body_step m t b = m.step b.actor b.row.ports (t / m.period b.actor)

  -- the actor with its ports after this step, which is that of actor `who` of all
  abbrev pub body_after : Machine S → ℕ → ℕ → Body S → Body S
  body_after m who t b = record {
    actor = (body_step m t b).state;
    row = with_ports b.row (body_step m t b).ports;
    recs = appended_all (record b.recs { at = t; actor = who }) (body_step m t b).records;
  }

  -- it took other ports along, of which the same was seen
  abbrev pub with_own_ports : Body S → List PortView → Body S
  with_own_ports b ports = record b { row = with_ports b.row ports }

  -- it took another row along
  abbrev pub with_own_row : Body S → PortsView → Body S
  with_own_row b row = record b { row = row }

  -- one seat has this now, and the others are as they were
  pub record SeatSet (old new : List (Option (Box (Body S) Global))) (i : ℕ) (o : Option (Body S)) : Type 0 where
    pub long : length new ≡ length old
    pub here : body_at new i ≡ o
    pub others : (k : ℕ) → k ≢ i → body_at new k ≡ body_at old k

  -- an actor in this state, with a row for so many ports, these records, and room for those of a step
  pub record IsBody (own : List ℕ) (s : S) (did : List Record) (b : Body S) : Type 0 where
    pub actor : b.actor ≡ s
    pub ports : length b.row.ports ≡ length own
    pub seen : length b.row.seen ≡ length own
    pub items : b.recs.items ≡ did
    pub room : 64 * length own ≤ b.recs.room

  -- the same of what a seat has
  abbrev pub Sits : List ℕ → S → List Record → Option (Body S) → Type 0
  Sits own s did None = ⊥
  Sits own s did (Some b) = IsBody own s did b

  -- a seat has an actor with a row for so many ports
  abbrev pub HasRow : List ℕ → Option (Body S) → Type 0
  HasRow own None = ⊥
  HasRow own (Some b) = (length b.row.ports ≡ length own) × (length b.row.seen ≡ length own)

  -- each actor that is not out sits in its seat, in its state and with its records
  pub record Seated (w : Wires) (out : List Bool) (states : List S) (did : ℕ → List Record) (seats : List (Option (Box (Body S) Global))) : Type 0 where
    pub all : length seats ≡ length states
    pub sits : (i : ℕ) (s : S) → slice_get states i ≡ Some s → is_in out i ≡ false → Sits (own_of w i) s (did i) (body_at seats i)

-- the ports of those who are not out stand in their rows, and what they show has been seen (of the others too, where a side says so)
pub record Placed (w : Wires) (all_seen : Bool) (out : List Bool) (ports : List PortView) (rows : RowsView) : Type 0 where
  pub long : length rows.ports ≡ length ports
  pub seen_long : length rows.seen ≡ length ports
  pub stand : (q : ℕ) → q < length ports → is_in out (owner_of w q) ≡ false → port_at rows.ports q ≡ port_at ports q
  pub seen : (q : ℕ) → q < length ports → (all_seen ≡ true) ⊎ (is_in out (owner_of w q) ≡ false) → face_at rows.seen q ≡ face_of (port_at ports q)
