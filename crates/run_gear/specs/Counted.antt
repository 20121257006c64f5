-- What a run has counted of its requests.
use Rattle.std.specs.Prelude.{List, Option, None, Some}
use Rattle.port_msg.specs.declared.records.Record.{Record}
use Rattle.task_stats.specs.Tasks.{TasksView, after_records}

-- what was counted before, and these records behind it; nothing where requests are not counted
abbrev pub counted_with : Option (List TasksView) → List Record → Option (List TasksView)
counted_with None recs = None
counted_with (Some tasks) recs = Some (after_records tasks recs)
