use Rattle.std.proofs.Common.{◌≡◌, drop}
use Rattle.toml.specs.View.{items_view}
use Rattle.sim_config.specs.Values.{some_wrong_type}
use Rattle.sim_config.proofs.list.some_wrong_type.Given as goal

-- no element so far is of another type
abbrev pub invariant-loop-value : goal.invariant-loop-value
invariant-loop-value g l =
    let read = g.E.Element.value_in in
    some_wrong_type read (items_view (drop l.value-index l.values)) ≡ some_wrong_type read (items_view l.values)
