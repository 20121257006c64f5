-- What a swap answers, and the events that it is.
use Rattle.std.specs.Prelude.{◌≡◌, ℕ, ◌+◌, ◌<◌, ◌⊎◌, min, length, List, [], ◌∷◌, ◌++◌, Bool, true, false}
use Rattle.std.specs.Int.{div_ceil}
use Rattle.tick_law.specs.SerialLoop.{System, pick}
use Rattle.hub_laws.specs.HubState.{HubState}
use Rattle.hub_laws.specs.declared.stage.Stage.{Stage}
use Rattle.hub_laws.specs.declared.stage.Stage.TheVariants.{Boundary, Primary, Secondary, Over as AtEnd}
use Rattle.hub_laws.specs.Events.{MayOpen, opened}
use Rattle.run_hub.specs.declared.batch.TheConstants.{BATCH_ROOM}
use Rattle.run_hub.specs.declared.task.TaskName.{TaskName}
use Rattle.run_hub.specs.declared.swap.Swap.{Swap}
use Rattle.run_hub.specs.declared.swap.Swap.TheVariants.{Got, Wait, Over}
use Rattle.run_hub.specs.declared.swap.Swapped.{Swapped}
use Rattle.run_hub.specs.Batch.{BatchView}
use Rattle.run_hub.specs.Claims.{count_in, Goes, Waits, Ends}
use Rattle.run_hub.specs.GoesOn.{TraceView, TraceStays}
use Rattle.run_hub.specs.Finishes.{is_out, finished}

module _ {P N : Type 0} where
  -- a step that is out here (true) is taken, with what follows; of another nothing comes
  abbrev pub FinishOf : System P N → ℕ → Bool → HubState → HubState → TraceView → TraceView → TaskName → Type 0
  FinishOf r parts true old new trace trace' done = (new ≡ finished r parts new.failed old done) × TraceStays trace trace'
  FinishOf r parts false old new trace trace' done = (new ≡ old) × (trace' ≡ trace)

  -- a step comes back: it is taken exactly where it is out here
  abbrev pub OneFinish : System P N → ℕ → HubState → HubState → TraceView → TraceView → TaskName → Type 0
  OneFinish r parts old new trace trace' done = FinishOf r parts (is_out parts old done) old new trace trace' done

  -- these come back one after another, so many of which are not out here at that moment
  abbrev pub AllFinish : System P N → ℕ → HubState → HubState → TraceView → TraceView → List TaskName → ℕ → Type 0
  AllFinish r parts old new trace trace' [] strange = (new ≡ old) × (trace' ≡ trace) × (strange ≡ 0)
  AllFinish r parts old new trace trace' (done ∷ dones) strange =
      (mid : HubState) × (between : TraceView) × (rest : ℕ)
      × OneFinish r parts old mid trace between done
      × AllFinish r parts mid new between trace' dones rest
      × (strange ≡ pick (is_out parts old done) 0 1 + rest)

-- these go out one after another, each the one of least number that waits then
abbrev pub AllGo : ℕ → HubState → HubState → List TaskName → Type 0
AllGo parts old new [] = new ≡ old
AllGo parts old new (name ∷ names) = (mid : HubState) × Goes parts old name mid × AllGo parts mid new names

abbrev pub waiting_at : Stage → HubState → ℕ
waiting_at Boundary s = 0
waiting_at Primary s = count_in s.part_marks.waiting
waiting_at Secondary s = count_in s.link_marks.waiting
waiting_at AtEnd s = 0

-- how many wait in the pass that is open
abbrev pub waiting : HubState → ℕ
waiting s = waiting_at s.stage s

-- the share of one of so many workers in those that wait, rounded up, and no more than a batch has room for
abbrev pub share_of : ℕ → ℕ → ℕ
share_of waiting workers = min BATCH_ROOM (div_ceil waiting workers)

-- so many more of the pass that is open go out, behind the tasks that the batch has
pub record TakesMore (parts : ℕ) (old new : HubState) (batch batch' : BatchView) (more : ℕ) : Type 0 where
  pub names : List TaskName
  pub go : AllGo parts old new names
  pub count : length names ≡ more
  pub tasks : batch'.tasks ≡ batch.tasks ++ names
  pub dones : batch'.dones ≡ batch.dones

-- of the pass that is open a share goes out, which is not empty
pub record ShareGoes (parts workers : ℕ) (pass new : HubState) (names : List TaskName) : Type 0 where
  pub go : AllGo parts pass new names
  pub some : 0 < length names
  pub share : length names ≡ share_of (waiting pass) workers

-- a pass opens, of which a share goes out
pub record OpensForShare (parts until workers : ℕ) (old new : HubState) (names : List TaskName) : Type 0 where
  pub time : ℕ
  pub may : MayOpen until old time
  pub goes : ShareGoes parts workers (opened old time) new names

-- the claims of a swap: a share goes out, or there is none as a claim tells it
abbrev pub ShareClaims : ℕ → ℕ → ℕ → HubState → HubState → List TaskName → Swap → Type 0
ShareClaims parts until workers old new names (Got n) = (n ≡ length names) × (ShareGoes parts workers old new names ⊎ OpensForShare parts until workers old new names)
ShareClaims parts until workers old new names (Wait why) = (names ≡ []) × Waits until old new why
ShareClaims parts until workers old new names Over = (names ≡ []) × Ends until old new

-- the steps of a batch come back in their order, and then a share of those that wait goes out
pub record Swaps {P N : Type 0} (r : System P N) (parts until workers : ℕ) (old new : HubState) (trace trace' : TraceView) (batch batch' : BatchView) (answer : Swapped) : Type 0 where
  pub mid : HubState
  pub finishes : AllFinish r parts old mid trace trace' batch.dones answer.strange
  pub claims : ShareClaims parts until workers mid new batch'.tasks answer.next
  pub none_left : batch'.dones ≡ []
