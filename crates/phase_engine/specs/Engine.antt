-- What contracts see of an engine.
use Rattle.std.specs.Prelude.{ℕ, List, Option}
use Rattle.sim_base.specs.declared.time.Time.{Time}
use Rattle.tick_law.specs.SerialLoop.{WorldState}
use Rattle.port_rows.specs.World.{state_of}
use Rattle.task_stats.specs.Tasks.{TasksView}
use Rattle.phase_engine.specs.declared.run.Run.{Run}

-- its world, the next times of all actors, its boundary (all times below it are done), the last of these at which an actor made
-- progress, or 0, and what its last run counted of requests, where it counted them
pub record EngineView (P N : Type 0) : Type 0 where
  pub world : WorldState P N
  pub next : List (Option Time)
  pub at : ℕ
  pub end : ℕ
  pub stats : Option (List TasksView)

abbrev pub engine_view : {P N : Type 0} → Run P N → Option (List TasksView) → EngineView P N
engine_view r stats = record { world = state_of r.world; next = r.gear.next; at = r.at; end = r.end; stats = stats }
