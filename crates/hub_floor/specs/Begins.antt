-- What came of a floor at a boundary that was asked to begin a time.
use Rattle.std.specs.Prelude.{◌≡◌, ℕ, ◌<◌, ◌≤◌, min, List, Option, Some, None, true, false}
use Rattle.sim_base.specs.declared.time.Time.{Time}
use Rattle.event_queue.specs.NextTimes.{time_of}
use Rattle.tick_law.specs.SerialLoop.{System}
use Rattle.model_laws.specs.NextTable.{next_at_place}
use Rattle.hub_laws.specs.HubState.{HubState}
use Rattle.hub_laws.specs.Events.{IsLeastTime, MayOpen, MayEnd, opened, ended}
use Rattle.hub_floor.specs.declared.begin.Begun.{Begun}
use Rattle.hub_floor.specs.declared.begin.Begun.TheVariants.{Opened, Over, Paused, Held}
use Rattle.hub_floor.specs.declared.floor.Floor.{Floor}
use Rattle.hub_floor.specs.Floor.{hub_state, RestsOf, PassOf}

-- the least time of all, if there is one
abbrev pub IsFirstOf : List (Option Time) → Option ℕ → Type 0
IsFirstOf times None = (i : ℕ) → time_of times i ≡ None
IsFirstOf times (Some t) = ((i : ℕ) × (time_of times i ≡ Some (record { 0 = t }))) × ((i : ℕ) (u : Time) → time_of times i ≡ Some u → t ≤ u.0)

abbrev pub lesser_of : Option ℕ → Option ℕ → Option ℕ
lesser_of None b = b
lesser_of (Some x) None = Some x
lesser_of (Some x) (Some y) = Some (min x y)

-- no next time and no asked edge is left
pub record NothingLeft (s : HubState) : Type 0 where
  pub parts : (i : ℕ) → next_at_place s.part_next i ≡ None
  pub links : (i : ℕ) → next_at_place s.link_next i ≡ None
  pub asks : (i : ℕ) → next_at_place s.asked i ≡ None

-- the least of all next times and asked edges, if there is one
abbrev pub IsLeastOf : HubState → Option ℕ → Type 0
IsLeastOf s None = NothingLeft s
IsLeastOf s (Some t) = IsLeastTime s t

module _ {P N : Type 0} where
  -- a pass is open
  pub record BeginsPass (r : System P N) (vp : P → Type 0) (vn : N → Type 0) (until : ℕ) (old new : Floor P N) : Type 0 where
    pub time : ℕ
    pub may : MayOpen until (hub_state old) time
    pub event : hub_state new ≡ opened (hub_state old) time
    pub pass : PassOf r vp vn until new

  -- the run is over
  pub record IsEnded (r : System P N) (vp : P → Type 0) (vn : N → Type 0) (until : ℕ) (old new : Floor P N) : Type 0 where
    pub may : MayEnd until (hub_state old)
    pub event : hub_state new ≡ ended until (hub_state old)
    pub rest : RestsOf r vp vn until new

  -- it could go on, and nothing has changed
  pub record CouldGoOn (until : ℕ) (old new : Floor P N) : Type 0 where
    pub same : new ≡ old
    pub written : old.failed ≡ false
    pub time : ℕ
    pub least : IsLeastTime (hub_state old) time
    pub within : time ≤ until

  abbrev pub Begins : System P N → (P → Type 0) → (N → Type 0) → ℕ → Floor P N → Floor P N → Begun → Type 0
  Begins r vp vn until old new Opened = BeginsPass r vp vn until old new
  Begins r vp vn until old new Over = IsEnded r vp vn until old new
  Begins r vp vn until old new Paused = CouldGoOn until old new × (old.paused ≡ true)
  Begins r vp vn until old new (Held w) = CouldGoOn until old new × (old.paused ≡ false) × (old.wants ≡ w) × (0 < w)
