-- What contracts see of a batch of tasks.
use Rattle.std.specs.Prelude.{List, [], ◌∷◌, ◌++◌, Bool, true, false}
use Rattle.run_hub.specs.declared.task.TaskName.{TaskName}

-- the tasks that are to be worked, and the steps that were made, each in their order
pub record BatchView : Type 0 where
  pub tasks : List TaskName
  pub dones : List TaskName

abbrev pub empty_batch : BatchView
empty_batch = record { tasks = []; dones = [] }

abbrev pub has_some : List TaskName → Bool
has_some [] = false
has_some (t ∷ ts) = true

abbrev pub worked_of : List TaskName → List TaskName → BatchView
worked_of [] dones = record { tasks = []; dones = dones }
worked_of (t ∷ ts) dones = record { tasks = ts; dones = dones ++ t ∷ [] }

-- the first task, where there is one, is the last of the steps that were made
abbrev pub worked : BatchView → BatchView
worked b = worked_of b.tasks b.dones
