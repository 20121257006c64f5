-- What a pass over everybody needs, and what it does.
use Rattle.std.specs.Prelude.{◌≡◌, ℕ, ◌+◌, ◌*◌, ◌^◌, ◌<◌, ◌≤◌, ◌++◌, List, length, Option, Bool}
use Rattle.sim_base.specs.declared.time.TheConstants.{LATEST_TIME}
use Rattle.tick_law.specs.Machine.{Machine}
use Rattle.tick_law.specs.Pass.{pass, everyone}
use Rattle.tick_law.specs.Outcomes.{outcome, records, stirs, steps_of}
use Rattle.model_laws.specs.Pass.{whole_side}
use Rattle.model_laws.specs.NextTable.{next_after, IsTable, next_at_place}
use Rattle.model_laws.specs.Outcome.{own_to}
use Rattle.model_laws.specs.WellFormed.{HasRoom, IsSound}
use Rattle.actor_turn.specs.declared.side.SideGear.{SideGear}
use Rattle.actor_turn.specs.Act.{ActState, side_acting, places_acting}
use Rattle.run_gear.specs.declared.gear.Gear.{Gear}

-- passes change the records of a gear, and nothing else
pub record GearStays (old new : Gear) : Type 0 where
  pub parts : new.parts ≡ old.parts
  pub links : new.links ≡ old.links
  pub hands : new.hands.items ≡ old.hands.items

module _ {S : Type 0} where
  -- what a pass needs, where these are the next times of its side
  pub record CanPass (m : Machine S) (valid : S → Type 0) (mine : SideGear) (t : ℕ) (old : ActState S) (next : List (Option ℕ)) : Type 0 where
    pub fits : HasRoom S m mine.wiring (side_acting old) old.recs.room old.recs.room
    pub sound : IsSound m valid mine.wiring (side_acting old)
    pub all_next : length next ≡ length old.actors
    pub few : mine.first + length old.actors < 2 ^ 32
    pub time : t ≤ LATEST_TIME
    pub enough : length old.recs.items + 64 * own_to mine.wiring (length old.actors) ≤ old.recs.room

  -- each actor's next time is the one that its step leaves
  abbrev pub AreNoted : Machine S → SideGear → ℕ → ActState S → List (Option ℕ) → List (Option ℕ) → Type 0
  AreNoted m mine t old start next =
      IsTable next
      (λ i. next_after m t (outcome m mine.wiring everyone t (side_acting old) i) (next_at_place start i))
      (length old.actors)

  -- everybody with an edge at t has stepped, and their next times went from `start` to `next`
  pub record HasPassed (m : Machine S) (mine : SideGear) (t : ℕ) (old : ActState S) (start : List (Option ℕ)) (new : ActState S) (next : List (Option ℕ)) (flag : Bool) : Type 0 where
    pub places_are : places_acting new
        ≡ whole_side (pass m mine.wiring everyone t (side_acting old))
    pub noted : AreNoted m mine t old start next
    pub seen : new.rows.seen ≡ old.rows.seen
    pub wires : new.rows.wires ≡ old.rows.wires
    pub room : new.recs.room ≡ old.recs.room
    pub records_are : new.recs.items
        ≡ old.recs.items ++ records m mine.wiring everyone t (side_acting old) mine.first
    pub flag_is : flag ≡ stirs m mine.wiring everyone t (side_acting old)
    pub steps_are : new.steps ≡ old.steps + steps_of m mine.wiring everyone t (side_acting old)
