-- What an engine keeps: its world is the run's, and its tables have the run's next times.
use Rattle.std.specs.Prelude.{◌≡◌, ℕ, ◌+◌, ◌≤◌, List, length, Option, true}
use Rattle.tick_law.specs.WorldPlaces.{WorldPlaces}
use Rattle.tick_law.specs.SerialLoop.{System, begun, world_at, whole_world, mid}
use Rattle.tick_law.specs.Course.{part_course, link_course, ready, ticked}
use Rattle.model_laws.specs.NextTable.{IsTable}
use Rattle.tick_law.specs.Verdict.{part_next, link_next}

module _ {P N : Type 0} where
  -- what is true of an engine at boundary d
  pub record IsBoundary (r : System P N) (d : ℕ) (world : WorldPlaces P N) (parts links : List (Option ℕ)) : Type 0 where
    pub begun : r.start.at ≤ d
    pub world_is : world ≡ whole_world (world_at r d)
    pub parts_are : IsTable parts (part_next r d) (length r.start.world.parts)
    pub links_are : IsTable links (link_next r d) (length r.start.world.links)

  -- and between its two passes at t
  pub record IsMid (r : System P N) (t : ℕ) (world : WorldPlaces P N) (parts links : List (Option ℕ)) : Type 0 where
    pub begun : r.start.at ≤ t
    pub world_is : world ≡ whole_world (mid r t)
    pub parts_are : IsTable parts (λ i. ticked (part_course r) i (t + 1)) (length r.start.world.parts)
    pub links_are : IsTable links (λ i. ready (link_course r) i t) (length r.start.world.links)
