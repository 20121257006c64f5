-- Records are counted one after another.
use Rattle.std.proofs.Common.{◌≡◌, List, [], ◌∷◌, ◌++◌, ap, refl, sym, ◌∙◌}
use Rattle.std.specs.Prelude.{Option, None, Some}
use Rattle.port_msg.specs.declared.records.Record.{Record}
use Rattle.task_stats.specs.Tasks.{TasksView, after_record, after_records}
use Rattle.run_gear.specs.Counted.{counted_with}

after_both : (a b : List Record) (tasks : List TasksView) → after_records tasks (a ++ b) ≡ after_records (after_records tasks a) b
after_both [] b tasks = refl
after_both (r ∷ a) b tasks = after_both a b (after_record tasks r)

-- no record counts nothing
pub counted_none : (tasks : Option (List TasksView)) → tasks ≡ counted_with tasks []
counted_none None = refl
counted_none (Some tasks) = refl

counted_both : (tasks : Option (List TasksView)) (a b : List Record) → counted_with (counted_with tasks a) b ≡ counted_with tasks (a ++ b)
counted_both None a b = refl
counted_both (Some tasks) a b = ap (λ l. Some l) (sym (after_both a b tasks))

-- what was counted of some records, and of those that follow
pub counted_then : (first mid last : Option (List TasksView)) (a b both : List Record) → both ≡ a ++ b → mid ≡ counted_with first a → last ≡ counted_with mid b → last ≡ counted_with first both
counted_then first mid last a b both is p q = q ∙ ap (λ tasks. counted_with tasks b) p ∙ counted_both first a b ∙ ap (counted_with first) (sym is)
