-- Who is asleep at a boundary.
use Rattle.std.specs.Prelude.{ℕ, List, length, Option}
use Rattle.sim_base.specs.declared.time.Time.{Time}
use Rattle.tick_law.specs.SerialLoop.{System, WorldState, parts_of, links_of}
use Rattle.tick_law.specs.Starts.{AreAsleep}
use Rattle.model_laws.specs.SideTimes.{half_of}

-- at boundary d of a run, with this world and these next times, each actor whose next time is not its first edge from there is
-- asleep: no step of it at a cycle from its last edge on and below its timer has the flag, whatever stands behind the same faces
pub record WhoWaitsIsAsleep {P N : Type 0} (r : System P N) (d : ℕ) (world : WorldState P N) (next : List (Option Time)) : Type 0 where
  pub parts : AreAsleep r.part r.part_wires d
      (half_of 0 (length r.start.world.parts) next) (parts_of world)
  pub links : AreAsleep r.link r.link_wires d
      (half_of (length r.start.world.parts) (length r.start.world.links) next) (links_of world)
