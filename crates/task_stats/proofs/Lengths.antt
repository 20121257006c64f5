-- Records change no number of parts.
use Rattle.std.proofs.Common.{◌≡◌, ℕ, List, [], ◌∷◌, length, refl, ◌∙◌}
use Rattle.std.specs.Prelude.{slice_set}
use Rattle.std.proofs.lemmas.List.{length-set}
use Rattle.port_msg.specs.declared.records.Record.{Record}
use Rattle.task_stats.specs.Tasks.{TasksView, after_record, after_records, after_what, tasks_at}

pub length-after_records : (recs : List Record) (all : List TasksView) → length (after_records all recs) ≡ length all
length-after_records [] all = refl
length-after_records (r ∷ rest) all = length-after_records rest (after_record all r) ∙ length-set all r.actor.0 (after_what r.at.0 r.what (tasks_at all r.actor.0))
