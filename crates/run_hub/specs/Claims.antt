-- What a claim answers, and the events that it is.
use Rattle.std.specs.Prelude.{◌≡◌, ℕ, ◌+◌, ◌<◌, ◌≤◌, ◌⊎◌, length, List, Bool, true, false}
use Rattle.bit_set.specs.Bits.{is_in}
use Rattle.sim_base.specs.declared.phase.Phase.{Phase}
use Rattle.away_rows.specs.declared.marks.Marks.{Marks}
use Rattle.hub_laws.specs.HubState.{HubState}
use Rattle.hub_laws.specs.declared.stage.Stage.TheVariants.{Boundary, Primary, Secondary, Over}
use Rattle.hub_laws.specs.Events.{count_to, IsLeastTime, MayOpen, MayEnd, opened, ended, part_claimed, link_claimed}
use Rattle.run_hub.specs.declared.task.TaskName.{TaskName}
use Rattle.run_hub.specs.declared.claim.Why.{Why}
use Rattle.run_hub.specs.declared.claim.Why.TheVariants.{Running, Paused, Held}
use Rattle.run_hub.specs.declared.claim.Claim.{Claim}
use Rattle.run_hub.specs.declared.claim.Claim.TheVariants.{Got, Wait, Over as IsOver}

-- how many are in a set
abbrev pub count_in : List Bool → ℕ
count_in set = count_to (λ i. is_in set i) (length set)

-- this is the least number of those that wait
pub record IsFirstWaiting (marks : Marks) (i : ℕ) : Type 0 where
  pub waits : is_in marks.waiting i ≡ true
  pub least : (k : ℕ) → k < i → is_in marks.waiting k ≡ false

-- nobody waits, and so many are out
pub record AllRun (marks : Marks) (n : ℕ) : Type 0 where
  pub none_waits : (i : ℕ) → is_in marks.waiting i ≡ false
  pub out : n ≡ count_in marks.out

-- in the pass of the parts the one of least number that waits goes out
pub record PartGoes (old : HubState) (name : TaskName) (new : HubState) : Type 0 where
  pub stage : old.stage ≡ Primary
  pub phase : name.phase ≡ Phase.Primary
  pub at : name.at.0 ≡ old.at
  pub first : IsFirstWaiting old.part_marks name.actor.0
  pub event : new ≡ part_claimed old name.actor.0

-- in the pass of the links the one of least number that waits goes out; links are numbered behind the parts
pub record LinkGoes (parts : ℕ) (old : HubState) (name : TaskName) (new : HubState) : Type 0 where
  pub number : ℕ
  pub actor : name.actor.0 ≡ parts + number
  pub stage : old.stage ≡ Secondary
  pub phase : name.phase ≡ Phase.Secondary
  pub at : name.at.0 ≡ old.at
  pub first : IsFirstWaiting old.link_marks number
  pub event : new ≡ link_claimed old number

-- in the pass that is open the one of least number that waits goes out
abbrev pub Goes : ℕ → HubState → TaskName → HubState → Type 0
Goes parts old name new = PartGoes old name new ⊎ LinkGoes parts old name new

-- nobody waits in the pass that is open, and so many are out
abbrev pub Runs : HubState → ℕ → Type 0
Runs s n = ((s.stage ≡ Primary) × AllRun s.part_marks n) ⊎ ((s.stage ≡ Secondary) × AllRun s.link_marks n)

-- a claim in a pass: one goes out, or nobody waits and nothing changes
abbrev pub ClaimsInPass : {P N C : Type 0} → ℕ → HubState → HubState → Claim P N C → Type 0
ClaimsInPass parts old new (Got name) = Goes parts old name new
ClaimsInPass parts old new (Wait (Running n)) = Runs old n × (new ≡ old)
ClaimsInPass parts old new (Wait Paused) = ⊥
ClaimsInPass parts old new (Wait (Held w)) = ⊥
ClaimsInPass parts old new IsOver = ⊥

-- a time is left that could begin: no write failed, and the least of all next times and asked edges is within the run
pub record CouldOpen (until : ℕ) (s : HubState) : Type 0 where
  pub stage : s.stage ≡ Boundary
  pub written : s.failed ≡ false
  pub time : ℕ
  pub least : IsLeastTime s time
  pub within : time ≤ until

-- a pass opens, and one goes out
pub record OpensFor (parts until : ℕ) (old : HubState) (name : TaskName) (new : HubState) : Type 0 where
  pub time : ℕ
  pub may : MayOpen until old time
  pub goes : Goes parts (opened old time) name new

-- why nobody goes out now, and nothing changes
abbrev pub Waits : ℕ → HubState → HubState → Why → Type 0
Waits until old new (Running n) = Runs old n × (new ≡ old)
Waits until old new Paused = CouldOpen until old × (old.paused ≡ true) × (new ≡ old)
Waits until old new (Held w) = CouldOpen until old × (old.paused ≡ false) × (old.wants ≡ w) × (0 < w) × (new ≡ old)

-- it was over, or it ends
abbrev pub Ends : ℕ → HubState → HubState → Type 0
Ends until old new = ((old.stage ≡ Over) × (new ≡ old)) ⊎ (MayEnd until old × (new ≡ ended until old))

-- what a claim answers, and what it changes
abbrev pub Claims : {P N C : Type 0} → ℕ → ℕ → HubState → HubState → Claim P N C → Type 0
Claims parts until old new (Got name) = Goes parts old name new ⊎ OpensFor parts until old name new
Claims parts until old new (Wait why) = Waits until old new why
Claims parts until old new IsOver = Ends until old new
