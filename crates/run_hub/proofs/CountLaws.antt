-- Requests are counted one actor after another.
use Rattle.std.proofs.Common.{◌≡◌, ◌++◌, List, ap}
use Rattle.std.specs.Prelude.{Some}
use Rattle.port_msg.specs.declared.records.Record.{Record}
use Rattle.task_stats.specs.Tasks.{TasksView, after_records}
use Rattle.run_gear.proofs.CountLaws.{counted_then as then_counted}

-- what was counted of some records, and of those that follow
pub counted_then : (first mid last : List TasksView) (a b both : List Record) → both ≡ a ++ b → mid ≡ after_records first a → last ≡ after_records mid b → last ≡ after_records first both
counted_then first mid last a b both is p q =
    let all : Some last ≡ Some (after_records first both) = then_counted (Some first) (Some mid) (Some last) a b both is (ap (λ l. Some l) p) (ap (λ l. Some l) q) in
    cc
