-- What follows where an actor is back: a pass opens, or the time is over.
use Rattle.std.specs.Prelude.{◌≡◌, ℕ, ◌<◌, ◌≤◌, ◌⊎◌, List, Option, Bool, true, false, is_some}
use Rattle.sim_io.specs.Sink.{Rose, Got, GotPrefix}
use Rattle.task_stats.specs.Tasks.{TasksView, after_records}
use Rattle.trace_out.specs.Names.{NamesView}
use Rattle.trace_out.specs.Lines.{lines_of, line_count}
use Rattle.tick_law.specs.SerialLoop.{System, records_at_time}
use Rattle.hub_laws.specs.HubState.{HubState}
use Rattle.hub_laws.specs.Events.{all_back, flipped, closed}
use Rattle.hub_floor.specs.declared.floor.Floor.{Floor}
use Rattle.hub_floor.specs.Floor.{hub_state, RestsOf, LinksOf}
use Rattle.run_hub.specs.declared.trace.Trace.{Trace}

-- what contracts see of a trace: what its sink got, where it tells, its count of faults, the names, which records have lines, and
-- what was counted of requests
pub record TraceView : Type 0 where
  pub told : Option (List ℕ)
  pub faults : ℕ
  pub names : NamesView
  pub all : Bool
  pub stats : List TasksView

abbrev pub trace_view : {K : Type 0} → (K → Option (List ℕ)) → (K → ℕ) → Trace K → TraceView
trace_view told faults t = record { told = told t.sink; faults = faults t.sink; names = t.names; all = t.all; stats = t.stats }

-- the trace keeps its names, its count of faults never falls, and it tells or not as before
pub record TraceStays (old new : TraceView) : Type 0 where
  pub names : new.names ≡ old.names
  pub all : new.all ≡ old.all
  pub never_falls : old.faults ≤ new.faults
  pub telling : is_some new.told ≡ is_some old.told

module _ {P N : Type 0} where
  -- the time is over: its requests were counted, and its lines were written, or a part of them
  pub record TimeClosed (r : System P N) (vp : P → Type 0) (vn : N → Type 0) (until : ℕ) (t : ℕ) (from : HubState) (new : Floor P N) (trace trace' : TraceView) : Type 0 where
    pub rest : RestsOf r vp vn until new
    pub event : hub_state new ≡ closed new.failed from
    pub whole : new.failed ≡ false → Got trace.told trace'.told (lines_of trace.names trace.all (records_at_time r t))
    pub fault : new.failed ≡ true → Rose trace.faults trace'.faults
    pub some : new.failed ≡ true → 0 < line_count trace.all (records_at_time r t)
    pub part : new.failed ≡ true → GotPrefix trace.told trace'.told (lines_of trace.names trace.all (records_at_time r t))
    pub counted : trace'.stats ≡ after_records trace.stats (records_at_time r t)
    pub stays : TraceStays trace trace'

  -- some link is not back, and nothing has changed; or the time is over
  abbrev pub AfterLinks : System P N → (P → Type 0) → (N → Type 0) → ℕ → Floor P N → Floor P N → TraceView → TraceView → Type 0
  AfterLinks r vp vn until old new trace trace' =
      ((all_back old.link_marks ≡ false) × (new ≡ old) × (trace' ≡ trace))
      ⊎ ((all_back old.link_marks ≡ true) × TimeClosed r vp vn until old.at (hub_state old) new trace trace')

  -- the links' pass is open, and somebody waits in it
  pub record LinksOpened (r : System P N) (vp : P → Type 0) (vn : N → Type 0) (until : ℕ) (old new : Floor P N) (trace trace' : TraceView) : Type 0 where
    pub floor : LinksOf r vp vn until new
    pub event : hub_state new ≡ flipped (hub_state old)
    pub waits : all_back new.link_marks ≡ false
    pub same : trace' ≡ trace

  -- some part is not back, and nothing has changed; or the links' pass is open; or the time is over
  abbrev pub AfterParts : System P N → (P → Type 0) → (N → Type 0) → ℕ → Floor P N → Floor P N → TraceView → TraceView → Type 0
  AfterParts r vp vn until old new trace trace' =
      ((all_back old.part_marks ≡ false) × (new ≡ old) × (trace' ≡ trace))
      ⊎ ((all_back old.part_marks ≡ true) × (
      LinksOpened r vp vn until old new trace trace'
      ⊎ ((all_back (flipped (hub_state old)).link_marks ≡ true) × TimeClosed r vp vn until old.at (flipped (hub_state old)) new trace trace')))
