use Rattle.std.proofs.Common.{◌≡◌, map, take}
use Rattle.port_rows.specs.World.{state_of}
use Rattle.serde_json.specs.View.{view}
use Rattle.part_view.specs.Entries.{port_entry, entries}
use Rattle.part_view.proofs.lists.port_values.Given as goal

abbrev pub invariant-loop-no : goal.invariant-loop-no
invariant-loop-no l = map view l.values.items ≡ entries (port_entry l.list) (take l.no l.labels) (take l.no (state_of l.world).ports)
