-- A run of a hub, wherever it has come.
use Rattle.std.specs.Prelude.{◌≡◌, ℕ, ◌+◌, ◌⊎◌, true, false}
use Rattle.tick_law.specs.SerialLoop.{System, records_below}
use Rattle.hub_laws.specs.declared.stage.Stage.{Stage}
use Rattle.hub_laws.specs.declared.stage.Stage.TheVariants.{Boundary, Primary, Secondary, Over}
use Rattle.hub_laws.specs.Events.{all_back}
use Rattle.hub_floor.specs.declared.floor.Floor.{Floor}
use Rattle.hub_floor.specs.Floor.{RestsOf, PartsOf, LinksOf}

module _ {P N : Type 0} where
  -- the pass of the parts is open: somebody waits in it or is out, and no write has failed
  pub record PartsOpen (r : System P N) (vp : P → Type 0) (vn : N → Type 0) (until : ℕ) (f : Floor P N) : Type 0 where
    pub floor : PartsOf r vp vn until f
    pub goes_on : all_back f.part_marks ≡ false
    pub written : f.failed ≡ false

  -- the same of the pass of the links
  pub record LinksOpen (r : System P N) (vp : P → Type 0) (vn : N → Type 0) (until : ℕ) (f : Floor P N) : Type 0 where
    pub floor : LinksOf r vp vn until f
    pub goes_on : all_back f.link_marks ≡ false
    pub written : f.failed ≡ false

  -- the pass of one side is open
  abbrev pub IsPass : System P N → (P → Type 0) → (N → Type 0) → ℕ → Floor P N → Type 0
  IsPass r vp vn until f = PartsOpen r vp vn until f ⊎ LinksOpen r vp vn until f

  -- it is over: behind the greatest time, or where a write failed
  pub record IsOver (r : System P N) (vp : P → Type 0) (vn : N → Type 0) (until : ℕ) (f : Floor P N) : Type 0 where
    pub floor : RestsOf r vp vn until f
    pub why : (f.failed ≡ true) ⊎ (f.at ≡ until + 1)

  -- what is true of it at a stage
  abbrev pub StandsAt : Stage → System P N → (P → Type 0) → (N → Type 0) → ℕ → Floor P N → Type 0
  StandsAt Boundary r vp vn until f = RestsOf r vp vn until f
  StandsAt Primary r vp vn until f = PartsOpen r vp vn until f
  StandsAt Secondary r vp vn until f = LinksOpen r vp vn until f
  StandsAt Over r vp vn until f = IsOver r vp vn until f

  abbrev pub Stands : System P N → (P → Type 0) → (N → Type 0) → ℕ → Floor P N → Type 0
  Stands r vp vn until f = StandsAt f.stage r vp vn until f

  -- it went on over times at which nothing is recorded, and no write failed on the way
  pub record WentOn (r : System P N) (old new : Floor P N) : Type 0 where
    pub records : records_below r new.at ≡ records_below r old.at
    pub failed : new.failed ≡ old.failed
    pub stays : old.failed ≡ true → new.at ≡ old.at
