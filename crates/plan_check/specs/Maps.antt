-- The maps of a text: names become port numbers.
use Rattle.std.specs.Prelude.{ℕ, List, map, slice_get, Option, Some, None}
use Rattle.sim_base.specs.declared.numbers.PortNo.{PortNo}
use Rattle.sim_config.specs.Tables.{PlanTables, RangeTable}
use Rattle.addr_map.specs.declared.range.Range.{Range}
use Rattle.plan_rules.specs.Text.{◌>>=◌, map_no, first_port, range_targets, ranges_of}

-- the port at which what is sent to a part comes in, 0 where there is no such part
abbrev pub port_to : PlanTables → Option ℕ → PortNo
port_to text None = record { 0 = 0 }
port_to text (Some part) = record { 0 = first_port text part }

-- a range that leads to ports
abbrev pub range_of : PlanTables → RangeTable → Range
range_of text r = record { base = r.base; size = r.size; granule = r.granule; to = map (port_to text) (range_targets text r) }

-- the ranges of the map of a name
abbrev pub map_of : PlanTables → List ℕ → List Range
map_of text name = map (range_of text) (ranges_of (map_no text name >>= slice_get text.maps))
