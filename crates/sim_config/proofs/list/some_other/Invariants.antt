use Rattle.std.proofs.Common.{◌≡◌, drop}
use Rattle.toml.specs.View.{items_view}
use Rattle.sim_config.specs.Values.{some_wrong_type, table_in}
use Rattle.sim_config.proofs.list.some_other.Given as goal

-- each value so far is a table
abbrev pub invariant-loop-value : goal.invariant-loop-value
invariant-loop-value l = some_wrong_type table_in (items_view (drop l.value-index l.values)) ≡ some_wrong_type table_in (items_view l.values)
