-- The rules of plans: which tables of a text break each of them.
use Rattle.std.specs.Prelude.{ℕ, ◌+◌, nat_lt, nat_le, ◌==◌, Bool, true, false, not, ◌&&◌, ◌||◌, List, [], ◌∷◌, ◌++◌, length, take, sum_by, position, slice_get, slice_index_or, bytes_eq, Option, Some, None, is_none}
use Rattle.std.specs.List.{list_any}
use Rattle.sim_config.specs.Tables.{PlanTables, MapTable, RangeTable, PartTable, LinkTable, ProgramTable}
use Rattle.sim_config.specs.declared.fault.TableNo.{TableNo}
use Rattle.sim_config.specs.declared.fault.TableNo.TheVariants.{Top, Map, Range, Part, Link, Program}
use Rattle.sim_config.specs.declared.part_text.PartKeys.{PartKeys}
use Rattle.sim_config.specs.declared.part_text.PartKeys.TheVariants as keys
use Rattle.plan_rules.specs.declared.rule.PlanRule.{PlanRule}
use Rattle.plan_rules.specs.declared.rule.PlanRule.TheVariants.{TooMany, DuplicateName, NoSuchName, WrongTarget, PortTwice, PortUnplugged, NotOnLink, MapOverlap, MapOutside, LineTooLong, MemoryOver}
use Rattle.plan_rules.specs.declared.limits.TheConstants.{MOST_MAPS, MOST_PARTS, MOST_LINKS, MOST_PROGRAMS, MOST_PORTS, MOST_MEMORY}
use Rattle.plan_rules.specs.Kinds.{port_count, target_name, first_map, second_map, memory_bytes}
use Rattle.plan_rules.specs.Text.{◌>>=◌, passes, some_below, ranges_at, ranges_by, keys_at, part_no, map_no, first_port, port_no, port_numbers, link_ports, range_targets, map_targets, all_targets}

-- a table's number is not below its limit, or its ports pass theirs
unfoldable pub too_many : PlanTables → TableNo → Bool
too_many text (Map m) = nat_le MOST_MAPS m
too_many text (Part i) = nat_le MOST_PARTS i || nat_lt MOST_PORTS (first_port text (i + 1))
too_many text (Link l) = nat_le MOST_LINKS l
too_many text (Program p) = nat_le MOST_PROGRAMS p
too_many text _ = false

-- one of these parts has the name
abbrev pub has_part : List PartTable → List ℕ → Bool
has_part parts name = list_any (λ (p : PartTable). bytes_eq p.name name) parts

abbrev pub has_map : List MapTable → List ℕ → Bool
has_map maps name = list_any (λ (m : MapTable). bytes_eq m.name name) maps

abbrev pub has_link : List LinkTable → List ℕ → Bool
has_link links name = list_any (λ (l : LinkTable). bytes_eq l.name name) links

abbrev pub has_program : List ProgramTable → List ℕ → Bool
has_program programs core = list_any (λ (p : ProgramTable). bytes_eq p.core core) programs

-- a part or link has the name of an earlier part or link, a map that of an earlier map, a program the core of an earlier one
unfoldable pub duplicate_name : PlanTables → TableNo → Bool
duplicate_name text (Map m) = passes (slice_get text.maps m) (λ table. has_map (take m text.maps) table.name)
duplicate_name text (Part i) = passes (slice_get text.parts i) (λ table. has_part (take i text.parts) table.name)
duplicate_name text (Link l) = passes (slice_get text.links l) (λ table. has_part text.parts table.name || has_link (take l text.links) table.name)
duplicate_name text (Program p) = passes (slice_get text.programs p) (λ table. has_program (take p text.programs) table.core)
duplicate_name text _ = false

-- the parts that a range leads to, by the numbers of its map and itself
abbrev pub targets_at : PlanTables → ℕ → ℕ → List (Option ℕ)
targets_at text m r = slice_index_or (slice_index_or (all_targets text) m []) r []

-- the ports of a link, by its number
abbrev pub ports_at : PlanTables → ℕ → List (Option ℕ)
ports_at text l = slice_index_or (link_ports text) l []

-- a name of a part, or of a map, that is not there
abbrev pub lacks_part : PlanTables → Option (List ℕ) → Bool
lacks_part text name = passes name (λ n. is_none (part_no text n))

abbrev pub lacks_map : PlanTables → Option (List ℕ) → Bool
lacks_map text name = passes name (λ n. is_none (map_no text n))

abbrev pub lacks_name : PlanTables → PartKeys → Bool
lacks_name text kind = lacks_part text (target_name kind) || lacks_map text (first_map kind) || lacks_map text (second_map kind)

-- a named part, map or port is not there
unfoldable pub no_such_name : PlanTables → TableNo → Bool
no_such_name text (Range m r) = list_any is_none (targets_at text m r)
no_such_name text (Part i) = passes (keys_at text i) (lacks_name text)
no_such_name text (Link l) = list_any is_none (ports_at text l)
no_such_name text (Program p) = passes (slice_get text.programs p) (λ table. is_none (part_no text table.core))
no_such_name text _ = false

-- the kind of a part that is there is of one of these
abbrev pub is_relay : Option PartKeys → Bool
is_relay (Some (keys.Relay to start)) = true
is_relay _ = false

abbrev pub is_agent : Option PartKeys → Bool
is_agent (Some (keys.Agent map base span count window gap start mode draw)) = true
is_agent _ = false

abbrev pub is_cache : Option PartKeys → Bool
is_cache (Some (keys.Cache map line sets ways misses)) = true
is_cache _ = false

abbrev pub is_core : Option PartKeys → Bool
is_core (Some (keys.Core inst_map data_map pc)) = true
is_core _ = false

-- a range may lead to a memory, a cache or an agent
abbrev pub answers_ranges : Option PartKeys → Bool
answers_ranges (Some (keys.Memory base size latency depth words)) = true
answers_ranges (Some (keys.Cache map line sets ways misses)) = true
answers_ranges (Some (keys.Agent map base span count window gap start mode draw)) = true
answers_ranges _ = false

-- the keys of the part that a name stands for
abbrev pub keys_of : PlanTables → Option ℕ → Option PartKeys
keys_of text target = target >>= keys_at text

-- a part to which the map of this name leads passes the test
abbrev pub leads_to : PlanTables → (Option ℕ → Bool) → Option (List ℕ) → Bool
leads_to text test None = false
leads_to text test (Some name) = passes (map_no text name) (λ m. list_any (list_any test) (slice_index_or (all_targets text) m []))

abbrev pub leads_to_agent : PlanTables → Option ℕ → Bool
leads_to_agent text target = is_agent (keys_of text target)

-- a target is no part behind the part of this number
abbrev pub not_behind : ℕ → Option ℕ → Bool
not_behind i None = false
not_behind i (Some target) = nat_le target i

-- what a cache must not send to: an agent, or a cache that does not stand behind it
abbrev pub is_above : PlanTables → ℕ → Option ℕ → Bool
is_above text i target = is_agent (keys_of text target) || is_cache (keys_of text target) && not_behind i target

abbrev pub has_wrong_target : PlanTables → ℕ → PartKeys → Bool
has_wrong_target text i (keys.Relay to start) = not (is_relay (keys_of text (part_no text to)))
has_wrong_target text i (keys.Cache map line sets ways misses) = leads_to text (is_above text i) (Some map)
has_wrong_target text i (keys.Core inst_map data_map pc) = leads_to text (leads_to_agent text) (Some inst_map) || leads_to text (leads_to_agent text) (Some data_map)
has_wrong_target text i _ = false

-- a range leads to a part of another kind than memory, cache or agent; a relay's target is no relay; a core's map leads to an agent;
-- a cache's map leads to an agent, or to a cache that does not stand behind it; a program's core is no core
unfoldable pub wrong_target : PlanTables → TableNo → Bool
wrong_target text (Range m r) = list_any (λ target. not (answers_ranges (keys_of text target))) (targets_at text m r)
wrong_target text (Part i) = passes (keys_at text i) (has_wrong_target text i)
wrong_target text (Program p) = passes (slice_get text.programs p) (λ table. not (is_core (keys_of text (part_no text table.core))))
wrong_target text _ = false

-- a number is that of the port
abbrev pub is_port : Option ℕ → Option ℕ → Bool
is_port (Some a) (Some b) = a == b
is_port _ _ = false

-- one of these ports stands in front of it, or in an earlier list
abbrev pub has_twice : List (List (Option ℕ)) → List (Option ℕ) → List (Option ℕ) → Bool
has_twice earlier front [] = false
has_twice earlier front (port ∷ ports) = list_any (is_port port) front || list_any (list_any (is_port port)) earlier || has_twice earlier (front ++ port ∷ []) ports

-- a link names a port that an earlier place names
unfoldable pub port_twice : PlanTables → TableNo → Bool
port_twice text (Link l) = has_twice (take l (link_ports text)) [] (ports_at text l)
port_twice text _ = false

-- the first link that names a port
unfoldable pub link_of : PlanTables → ℕ → Option ℕ
link_of text port = position (list_any (is_port (Some port))) (link_ports text)

-- a part has a port on no link
unfoldable pub port_unplugged : PlanTables → TableNo → Bool
port_unplugged text (Part i) = passes (keys_at text i) (λ kind. some_below (port_count kind) (λ k. is_none (link_of text (first_port text i + k))))
port_unplugged text _ = false

abbrev pub is_same : Option ℕ → Option ℕ → Bool
is_same (Some a) (Some b) = a == b
is_same _ _ = false

-- the first port of a part is not on the link of this port
abbrev pub is_off_link : PlanTables → ℕ → Option ℕ → Bool
is_off_link text port None = false
is_off_link text port (Some target) = not (is_same (link_of text (first_port text target)) (link_of text port))

unfoldable pub sends_off_link : PlanTables → ℕ → PartKeys → Bool
sends_off_link text port kind =
    passes (target_name kind) (λ name. is_off_link text port (part_no text name))
    || leads_to text (is_off_link text port) (first_map kind)
    || leads_to text (is_off_link text (port + 1)) (second_map kind)

-- a target of a part is not on the link of the port that the part sends from
unfoldable pub not_on_link : PlanTables → TableNo → Bool
not_on_link text (Part i) = passes (keys_at text i) (sends_off_link text (first_port text i))
not_on_link text _ = false

-- two ranges share a byte
abbrev pub overlaps : RangeTable → RangeTable → Bool
overlaps a b = nat_lt a.base (b.base + b.size) && nat_lt b.base (a.base + a.size)

-- a range shares a byte with an earlier range of its map
unfoldable pub map_overlap : PlanTables → TableNo → Bool
map_overlap text (Range m r) = passes (slice_get (ranges_at text m) r) (λ range. list_any (overlaps range) (take r (ranges_at text m)))
map_overlap text _ = false

-- a byte is in a range
abbrev pub holds : ℕ → RangeTable → Bool
holds byte range = nat_le range.base byte && nat_lt byte (range.base + range.size)

-- some of so many bytes from the first on is in none of the ranges
unfoldable pub is_uncovered : List RangeTable → ℕ → ℕ → Bool
is_uncovered ranges first count = some_below count (λ k. not (list_any (holds (first + k)) ranges))

-- a range is not within the memory, or not covered by the cache's map, that it leads to
abbrev pub is_outside : PlanTables → RangeTable → Option PartKeys → Bool
is_outside text range (Some (keys.Memory base size latency depth words)) = not (nat_le base range.base && nat_le (range.base + range.size) (base + size))
is_outside text range (Some (keys.Cache map line sets ways misses)) = is_uncovered (ranges_by text map) range.base range.size
is_outside text range _ = false

abbrev pub asks_outside : PlanTables → PartKeys → Bool
asks_outside text (keys.Agent map base span count window gap start mode draw) = is_uncovered (ranges_by text map) base span
asks_outside text _ = false

-- a range is outside a memory or a cache that it leads to; an agent asks for bytes outside its map
unfoldable pub map_outside : PlanTables → TableNo → Bool
map_outside text (Range m r) = passes (slice_get (ranges_at text m) r) (λ range. list_any (λ target. is_outside text range (keys_of text target)) (targets_at text m r))
map_outside text (Part i) = passes (keys_at text i) (asks_outside text)
map_outside text _ = false

-- a cache with a shorter line than this
abbrev pub is_shorter : ℕ → Option PartKeys → Bool
is_shorter line (Some (keys.Cache map below sets ways misses)) = nat_lt below line
is_shorter line _ = false

abbrev pub has_longer_line : PlanTables → PartKeys → Bool
has_longer_line text (keys.Cache map line sets ways misses) = leads_to text (λ target. is_shorter line (keys_of text target)) (Some map)
has_longer_line text _ = false

-- a cache's map leads to a cache with a shorter line
unfoldable pub line_too_long : PlanTables → TableNo → Bool
line_too_long text (Part i) = passes (keys_at text i) (has_longer_line text)
line_too_long text _ = false

-- the sizes of the memories up to this part pass their limit
unfoldable pub memory_over : PlanTables → TableNo → Bool
memory_over text (Part i) = nat_lt MOST_MEMORY (sum_by (λ (p : PartTable). memory_bytes p.kind) (take (i + 1) text.parts))
memory_over text _ = false

-- a table breaks a rule
unfoldable pub breaks : PlanTables → PlanRule → TableNo → Bool
breaks text TooMany = too_many text
breaks text DuplicateName = duplicate_name text
breaks text NoSuchName = no_such_name text
breaks text WrongTarget = wrong_target text
breaks text PortTwice = port_twice text
breaks text PortUnplugged = port_unplugged text
breaks text NotOnLink = not_on_link text
breaks text MapOverlap = map_overlap text
breaks text MapOutside = map_outside text
breaks text LineTooLong = line_too_long text
breaks text MemoryOver = memory_over text
