use Rattle.std.proofs.Common.{◌≡◌, map, take}
use Rattle.serde_json.specs.View.{view}
use Rattle.part_view.specs.Entries.{part_entry, entries}
use Rattle.part_view.proofs.lists.part_values.Given as goal

abbrev pub invariant-loop-no : goal.invariant-loop-no
invariant-loop-no l = map view l.values.items ≡ entries (part_entry l.list) (take l.no l.names) (take l.no l.parts)
