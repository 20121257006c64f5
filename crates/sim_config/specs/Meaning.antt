-- What a configuration means: the rules of each table in their order, to the first that is broken, or else the plan.
use Rattle.std.specs.Prelude.{ℕ, ◌+◌, ◌-◌, ◌/◌, List, [], ◌∷◌, ◌++◌, length, nat_lt, Option, Some, None, Result, Ok, Err, if◌then◌else◌}
use Rattle.std.specs.Prelude.{bytes_eq, codes}
use Rattle.std.specs.Str.{is_utf8}
use Rattle.sim_base.specs.declared.mode.Mode.{Mode}
use Rattle.sim_base.specs.declared.mode.Mode.TheVariants as modes
use Rattle.toml.specs.Data.{Members}
use Rattle.toml.specs.Parse.{parse_document}
use Rattle.sim_config.specs.declared.fault.ConfigFault.{ConfigFault}
use Rattle.sim_config.specs.declared.fault.ConfigFault.TheVariants.{Broken}
use Rattle.sim_config.specs.declared.fault.ConfigRule.TheVariants.{TooLong, NotToml}
use Rattle.sim_config.specs.declared.fault.TableNo.{TableNo}
use Rattle.sim_config.specs.declared.fault.TableNo.TheVariants.{Top, Map, Range, Part, Link, Program}
use Rattle.sim_config.specs.declared.kinds.PartKind.{PartKind}
use Rattle.sim_config.specs.declared.kinds.PartKind.TheVariants as part_kinds
use Rattle.sim_config.specs.declared.kinds.LinkKind.{LinkKind}
use Rattle.sim_config.specs.declared.kinds.LinkKind.TheVariants as link_kinds
use Rattle.sim_config.specs.declared.part_text.PartKeys.{PartKeys}
use Rattle.sim_config.specs.declared.part_text.PartKeys.TheVariants as part_keys
use Rattle.sim_config.specs.declared.link_text.LinkKeys.{LinkKeys}
use Rattle.sim_config.specs.declared.link_text.LinkKeys.TheVariants as link_keys
use Rattle.sim_config.specs.declared.version.Version.{Version}
use Rattle.sim_config.specs.declared.version.Version.TheVariants.{One, Two}
use Rattle.sim_config.specs.Keys
use Rattle.sim_config.specs.Tables.{RangeTable, MapTable, PartTable, LinkTable, ProgramTable, PlanTables}
use Rattle.sim_config.specs.Values.{◌>>=◌, number_at, optional_number_at, number_in, name_in, name_at, choice_at, choice_or, file_at, port_in, list_at, tables_at, known_at}

-- each table of a list, counted from n
abbrev pub each : {A : Type 0} → (ℕ → Members → Result A ConfigFault) → ℕ → List Members → Result (List A) ConfigFault
each read n [] = Ok []
each read n (t ∷ ts) = read n t >>= (λ first. each read (n + 1) ts >>= (λ rest. Ok (first ∷ rest)))

unfoldable pub range_at : ℕ → ℕ → Members → Result RangeTable ConfigFault
range_at m n ms = do
  known ← known_at (Range m n) Keys.range_words ms
  base ← number_at (Range m n) Keys.base ms
  size ← number_at (Range m n) (Keys.at_most (Keys.address_limit - base) Keys.size) ms
  to ← list_at name_in (Range m n) Keys.to ms
  granule ← number_at (Range m n) Keys.granule ms
  Ok (record { base = base; size = size; to = to; granule = granule })

unfoldable pub map_at : ℕ → Members → Result MapTable ConfigFault
map_at n ms = do
  name ← name_at (Map n) Keys.name ms
  known ← known_at (Map n) Keys.map_words ms
  tables ← tables_at (Map n) Keys.ranges ms
  ranges ← each (range_at n) 0 tables
  Ok (record { name = name; ranges = ranges })

abbrev pub part_kind : List ℕ → Option PartKind
part_kind word =
    if bytes_eq word (codes "relay") then Some part_kinds.Relay
    else if bytes_eq word (codes "agent") then Some part_kinds.Agent
    else if bytes_eq word (codes "memory") then Some part_kinds.Memory
    else if bytes_eq word (codes "cache") then Some part_kinds.Cache
    else if bytes_eq word (codes "core") then Some part_kinds.Core
    else None

abbrev pub agent_mode : List ℕ → Option Mode
agent_mode word =
    if bytes_eq word (codes "read") then Some modes.Read
    else if bytes_eq word (codes "write") then Some modes.Write
    else if bytes_eq word (codes "mixed") then Some modes.Mixed
    else None

unfoldable pub relay_at : TableNo → Members → Result PartKeys ConfigFault
relay_at place ms = do
  to ← name_at place Keys.target ms
  start ← optional_number_at place Keys.token ms
  Ok (part_keys.Relay to start)

unfoldable pub agent_at : TableNo → Members → Result PartKeys ConfigFault
agent_at place ms = do
  map ← name_at place Keys.address_map ms
  base ← number_at place Keys.agent_base ms
  span ← number_at place (Keys.at_most (Keys.address_limit - base) Keys.span) ms
  count ← number_at place Keys.count ms
  window ← number_at place Keys.window ms
  gap ← number_at place Keys.gap ms
  start ← number_at place Keys.start ms
  mode ← choice_or modes.Read place Keys.mode agent_mode ms
  draw ← number_at place Keys.draw ms
  Ok (part_keys.Agent map base span count window gap start mode draw)

unfoldable pub memory_at : TableNo → Members → Result PartKeys ConfigFault
memory_at place ms = do
  base ← number_at place Keys.base ms
  size ← number_at place (Keys.at_most (Keys.address_limit - base) Keys.memory_size) ms
  latency ← number_at place Keys.latency ms
  depth ← number_at place Keys.depth ms
  words ← list_at (number_in Keys.word_values) place (Keys.no_longer_than (size / 4) Keys.words) ms
  Ok (part_keys.Memory base size latency depth words)

-- how many misses a cache can have under way at once: one in version 1, which has no key for it
abbrev pub misses_at : Version → TableNo → Members → Result ℕ ConfigFault
misses_at One place ms = Ok 1
misses_at Two place ms = number_at place Keys.misses ms

unfoldable pub cache_at : Version → TableNo → Members → Result PartKeys ConfigFault
cache_at version place ms = do
  map ← name_at place Keys.address_map ms
  line ← number_at place Keys.line ms
  sets ← number_at place Keys.sets ms
  ways ← number_at place Keys.ways ms
  misses ← misses_at version place ms
  Ok (part_keys.Cache map line sets ways misses)

unfoldable pub core_at : TableNo → Members → Result PartKeys ConfigFault
core_at place ms = do
  inst_map ← name_at place Keys.inst ms
  data_map ← name_at place Keys.data_map ms
  pc ← number_at place Keys.pc ms
  Ok (part_keys.Core inst_map data_map pc)

-- the keys that a kind of part has for itself
abbrev pub part_keys_at : Version → PartKind → TableNo → Members → Result PartKeys ConfigFault
part_keys_at version part_kinds.Relay = relay_at
part_keys_at version part_kinds.Agent = agent_at
part_keys_at version part_kinds.Memory = memory_at
part_keys_at version part_kinds.Cache = cache_at version
part_keys_at version part_kinds.Core = core_at

unfoldable pub part_at : Version → ℕ → Members → Result PartTable ConfigFault
part_at version n ms = do
  name ← name_at (Part n) Keys.name ms
  kind ← choice_at (Part n) Keys.kind part_kind ms
  known ← known_at (Part n) (Keys.part_words ++ Keys.part_kind_words version kind) ms
  period ← number_at (Part n) Keys.period ms
  buffer ← number_at (Part n) Keys.buffer ms
  keys ← part_keys_at version kind (Part n) ms
  Ok (record { name = name; period = period; buffer = buffer; kind = keys })

abbrev pub link_kind : List ℕ → Option LinkKind
link_kind word = if bytes_eq word (codes "direct") then Some link_kinds.Direct else None

abbrev pub link_keys_of : LinkKind → LinkKeys
link_keys_of link_kinds.Direct = link_keys.Direct

unfoldable pub link_at : ℕ → Members → Result LinkTable ConfigFault
link_at n ms = do
  name ← name_at (Link n) Keys.name ms
  kind ← choice_at (Link n) Keys.kind link_kind ms
  known ← known_at (Link n) (Keys.link_words ++ Keys.link_kind_words kind) ms
  period ← number_at (Link n) Keys.period ms
  ports ← list_at port_in (Link n) Keys.ports ms
  Ok (record { name = name; period = period; ports = ports; kind = link_keys_of kind })

unfoldable pub program_at : ℕ → Members → Result ProgramTable ConfigFault
program_at n ms = do
  known ← known_at (Program n) Keys.program_words ms
  core ← name_at (Program n) Keys.program_core ms
  file ← file_at (Program n) Keys.program_file ms
  Ok (record { core = core; file = file })

unfoldable pub version_at : TableNo → Members → Result Version ConfigFault
version_at place ms = do
  number ← number_at place Keys.version ms
  Ok (Keys.version_of number)

-- the plan of a document
unfoldable pub plan_at : Members → Result PlanTables ConfigFault
plan_at ms = do
  known ← known_at Top Keys.top_words ms
  version ← version_at Top ms
  until ← number_at Top Keys.until ms
  map_tables ← tables_at Top Keys.maps ms
  part_tables ← tables_at Top Keys.parts ms
  link_tables ← tables_at Top Keys.links ms
  program_tables ← tables_at Top Keys.programs ms
  maps ← each map_at 0 map_tables
  parts ← each (part_at version) 0 part_tables
  links ← each link_at 0 link_tables
  programs ← each program_at 0 program_tables
  Ok (record { until = record { 0 = until }; maps = maps; parts = parts; links = links; programs = programs })

-- A configuration has at most this many bytes.
abbrev pub longest_file : ℕ
longest_file = 1048576

abbrev pub plan_of : Option Members → Result PlanTables ConfigFault
plan_of None = Err (Broken NotToml Top None)
plan_of (Some ms) = plan_at ms

-- the TOML document that bytes are
abbrev pub document_of : List ℕ → Option Members
document_of bytes = if is_utf8 bytes then parse_document bytes else None

-- the plan that a file writes, or the first rule that it breaks
unfoldable pub config_of : List ℕ → Result PlanTables ConfigFault
config_of bytes = if nat_lt longest_file (length bytes) then Err (Broken TooLong Top None) else plan_of (document_of bytes)
