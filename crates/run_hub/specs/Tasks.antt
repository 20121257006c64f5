-- What a task and what is given back hold.
use Rattle.std.specs.Prelude.{◌≡◌, ℕ, ◌+◌, length, Bool, true, false}
use Rattle.sim_base.specs.declared.phase.Phase.TheVariants.{Primary, Secondary}
use Rattle.tick_law.specs.SerialLoop.{System}
use Rattle.tick_law.specs.Course.{part_course, link_course}
use Rattle.away_rows.specs.declared.body.Body.{Body}
use Rattle.away_rows.specs.SidePass.{IsAfter}
use Rattle.hub_floor.specs.Passing.{IsTask}
use Rattle.run_hub.specs.declared.task.TaskName.{TaskName}
use Rattle.run_hub.specs.declared.task.Away.{Away}
use Rattle.run_hub.specs.declared.task.Away.TheVariants.{Part, Link}

module _ {P N : Type 0} where
  -- a part before its step
  pub record PartTask (r : System P N) (name : TaskName) (nr : ℕ) (b : Body P) : Type 0 where
    pub task : IsTask (part_course r) name.at.0 nr true b
    pub phase : name.phase ≡ Primary
    pub actor : name.actor.0 ≡ nr

  -- a link before its step
  pub record LinkTask (r : System P N) (name : TaskName) (nr : ℕ) (b : Body N) : Type 0 where
    pub task : IsTask (link_course r) name.at.0 nr false b
    pub phase : name.phase ≡ Secondary
    pub actor : name.actor.0 ≡ length r.start.world.parts + nr

  abbrev pub IsTaskOf : System P N → TaskName → ℕ → Away P N → Type 0
  IsTaskOf r name nr (Part b) = PartTask r name nr b.value
  IsTaskOf r name nr (Link b) = LinkTask r name nr b.value

  -- a part after its step
  pub record PartDone (r : System P N) (name : TaskName) (nr : ℕ) (b : Body P) (flag : Bool) : Type 0 where
    pub done : IsAfter (part_course r) 0 name.at.0 nr true b flag
    pub phase : name.phase ≡ Primary
    pub actor : name.actor.0 ≡ nr

  -- a link after its step
  pub record LinkDone (r : System P N) (name : TaskName) (nr : ℕ) (b : Body N) (flag : Bool) : Type 0 where
    pub done : IsAfter (link_course r) (length r.start.world.parts) name.at.0 nr false b flag
    pub phase : name.phase ≡ Secondary
    pub actor : name.actor.0 ≡ length r.start.world.parts + nr

  abbrev pub IsDoneOf : System P N → TaskName → ℕ → Away P N → Bool → Type 0
  IsDoneOf r name nr (Part b) flag = PartDone r name nr b.value flag
  IsDoneOf r name nr (Link b) flag = LinkDone r name nr b.value flag
