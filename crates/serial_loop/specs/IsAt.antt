-- A boundary of the loop that ticks everything.
use Rattle.std.specs.Prelude.{◌≡◌, ℕ, map}
use Rattle.tick_law.specs.Machine.{Machine}
use Rattle.tick_law.specs.SerialLoop.{Start, whole_world}
use Rattle.tick_law.specs.PlanView.{PlanView, link_wires, system_from}
use Rattle.model_laws.specs.Boundary.{IsBoundary}
use Rattle.port_row.specs.Row.{face_of}
use Rattle.port_rows.specs.World.{state_of}
use Rattle.port_rows.specs.declared.world.World.{World}
use Rattle.serial_loop.specs.declared.table.NextTables.{NextTables}

-- the world and the next times are the run's at boundary d, and all that the ports show was seen
pub record IsAt {P N : Type 0} (mp : Machine P) (mn : Machine N) (plan : PlanView P N) (start : Start P N) (d : ℕ) (world : World P N) (next : NextTables) : Type 0 where
  pub boundary : IsBoundary (system_from mp mn plan start) d
      (whole_world (state_of world)) next.parts next.links
  pub settled : world.rows.seen ≡ map face_of world.rows.ports
  pub wires : world.rows.wires ≡ link_wires plan
