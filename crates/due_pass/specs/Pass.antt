-- What a pass over those that are due needs, and what it does.
use Rattle.std.specs.Prelude.{◌≡◌, ℕ, ◌+◌, ◌*◌, ◌^◌, ◌<◌, ◌≤◌, ◌++◌, List, length, map, Bool}
use Rattle.sim_base.specs.declared.time.TheConstants.{LATEST_TIME}
use Rattle.bit_set.specs.Bits.{is_in}
use Rattle.tick_law.specs.Machine.{Machine}
use Rattle.tick_law.specs.Pass.{pass}
use Rattle.tick_law.specs.Outcomes.{outcome, records, stirs, steps_of}
use Rattle.tick_law.specs.NextTime.{woken}
use Rattle.model_laws.specs.Pass.{whole_side}
use Rattle.model_laws.specs.NextTable.{next_after, IsTable, chosen, due_in, next_at_place}
use Rattle.model_laws.specs.Outcome.{own_to}
use Rattle.model_laws.specs.WellFormed.{HasRoom, IsSound}
use Rattle.model_laws.specs.Stepping.{Due}
use Rattle.model_laws.specs.SideTimes.{half_of, AreSides}
use Rattle.model_laws.specs.Changed.{changed}
use Rattle.port_row.specs.Row.{face_of}
use Rattle.actor_turn.specs.declared.side.SideGear.{SideGear}
use Rattle.actor_turn.specs.Side.{times_of, edge_of, wake_time}
use Rattle.actor_turn.specs.Waking.{CanWake}
use Rattle.actor_turn.specs.Turn.{TurnState, side_in, places_in, own_next}

module _ {S : Type 0} where
  -- whose next time is t
  abbrev pub is_due : SideGear → ℕ → TurnState S → ℕ → Bool
  is_due mine t s = chosen Due (own_next mine s) t

  -- a set has those whose next time is t
  abbrev pub AreMarked : List Bool → SideGear → ℕ → TurnState S → Type 0
  AreMarked due mine t s = (i : ℕ) → i < length s.actors → is_in due i ≡ due_in (own_next mine s) t i

  -- what a pass needs
  pub record CanPass (m : Machine S) (valid : S → Type 0) (mine others : SideGear) (t : ℕ) (old : TurnState S) : Type 0 where
    pub fits : HasRoom S m mine.wiring (side_in old) old.recs.room old.recs.room
    pub sound : IsSound m valid mine.wiring (side_in old)
    pub settled : old.rows.seen ≡ map face_of old.rows.ports
    pub enough : length old.recs.items + 64 * own_to mine.wiring (length old.actors) ≤ old.recs.room
    pub time : t ≤ LATEST_TIME
    pub wakes : CanWake others (length old.rows.ports) old.next
    pub sides : AreSides (length old.next) mine.first (length old.actors) others.first
        (length others.periods.items)
    pub few : mine.first + length old.actors < 2 ^ 32

  -- each actor's next time is the one that its step leaves
  abbrev pub AreNoted : Machine S → SideGear → ℕ → TurnState S → TurnState S → Type 0
  AreNoted m mine t old new =
      IsTable (half_of mine.first (length old.actors) new.next)
      (λ i. next_after m t (outcome m mine.wiring (is_due mine t old) t (side_in old) i) (next_at_place (own_next mine old) i))
      (length old.actors)

  -- those of the other side to whom their ports show something else (true: parts, false: links) are woken, and nobody else
  abbrev pub HasWoken : Bool → SideGear → ℕ → TurnState S → TurnState S → Type 0
  HasWoken part others t old new =
      IsTable (times_of others new.next)
      (λ j. woken (changed part old.rows.ports new.rows.ports others.wiring j)
      (edge_of others (wake_time part t) j) (next_at_place (times_of others old.next) j))
      (length others.periods.items)

  -- the pass of those that are due at t is over
  pub record HasPassed (m : Machine S) (part : Bool) (mine others : SideGear) (t : ℕ) (old new : TurnState S) (flag : Bool) : Type 0 where
    pub places_are : places_in new
        ≡ whole_side (pass m mine.wiring (is_due mine t old) t (side_in old))
    pub all_actors : length new.actors ≡ length old.actors
    pub noted : AreNoted m mine t old new
    pub woken_are : HasWoken part others t old new
    pub all_next : length new.next ≡ length old.next
    pub wires : new.rows.wires ≡ old.rows.wires
    pub settled : new.rows.seen ≡ map face_of new.rows.ports
    pub room : new.recs.room ≡ old.recs.room
    pub records_are : new.recs.items
        ≡ old.recs.items ++ records m mine.wiring (is_due mine t old) t (side_in old) mine.first
    pub flag_is : flag ≡ stirs m mine.wiring (is_due mine t old) t (side_in old)
    pub steps_are : new.steps
        ≡ old.steps + steps_of m mine.wiring (is_due mine t old) t (side_in old)
