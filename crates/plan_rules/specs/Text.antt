-- What stands where in a text: tables by their numbers, numbers by names.
use Rattle.std.specs.Prelude.{ℕ, ◌+◌, ◌<◌, ◌≤◌, Bool, true, false, ◌||◌, List, [], ◌∷◌, map, length, take, sum_by, position, slice_get, bytes_eq, Option, Some, None, option_map, option_and_then, is_none}
use Rattle.std.specs.List.{list_any}
use Rattle.std.proofs.Common.{zero, suc}
use Rattle.sim_config.specs.Tables.{PlanTables, MapTable, RangeTable, PartTable, LinkTable, ProgramTable}
use Rattle.sim_config.specs.declared.part_text.PartKeys.{PartKeys}
use Rattle.sim_config.specs.declared.link_text.PortRef.{PortRef}
use Rattle.plan_rules.specs.Kinds.{port_words, port_count, word_text}

infixl 10 ◌>>=◌
abbrev pub ◌>>=◌ : {A B : Type 0} → Option A → (A → Option B) → Option B
o >>= f = option_and_then f o

-- whether there is a value that passes
abbrev pub passes : {A : Type 0} → Option A → (A → Bool) → Bool
passes None test = false
passes (Some x) test = test x

-- whether a number below n passes
abbrev pub some_below : ℕ → (ℕ → Bool) → Bool
some_below zero test = false
some_below (suc n) test = some_below n test || test n

-- the ranges of a map, none where there is no such map
abbrev pub ranges_of : Option MapTable → List RangeTable
ranges_of None = []
ranges_of (Some m) = m.ranges

abbrev pub ranges_at : PlanTables → ℕ → List RangeTable
ranges_at text m = ranges_of (slice_get text.maps m)

-- the keys of a part
abbrev pub keys_at : PlanTables → ℕ → Option PartKeys
keys_at text i = option_map (λ (p : PartTable). p.kind) (slice_get text.parts i)

-- the first part of a name
abbrev pub part_no : PlanTables → List ℕ → Option ℕ
part_no text name = position (λ (p : PartTable). bytes_eq p.name name) text.parts

-- the first map of a name
abbrev pub map_no : PlanTables → List ℕ → Option ℕ
map_no text name = position (λ (m : MapTable). bytes_eq m.name name) text.maps

-- the first program of a core of this name
abbrev pub program_no : PlanTables → List ℕ → Option ℕ
program_no text name = position (λ (p : ProgramTable). bytes_eq p.core name) text.programs

-- the ranges of the map of a name
abbrev pub ranges_by : PlanTables → List ℕ → List RangeTable
ranges_by text name = ranges_of (map_no text name >>= slice_get text.maps)

-- the number of a part's first port: ports are counted part by part
unfoldable pub first_port : PlanTables → ℕ → ℕ
first_port text i = sum_by (λ (p : PartTable). port_count p.kind) (take i text.parts)

-- the place of a word among a kind's ports
abbrev pub place_of : PartKeys → List ℕ → Option ℕ
place_of keys word = position (λ w. bytes_eq (word_text w) word) (port_words keys)

-- the number of a port by its part's name and its own word
unfoldable pub port_no : PlanTables → PortRef → Option ℕ
port_no text port = do
  part ← part_no text port.part
  keys ← keys_at text part
  place ← place_of keys port.word
  Some (first_port text part + place)

-- the ports of a link by their numbers
abbrev pub port_numbers : PlanTables → LinkTable → List (Option ℕ)
port_numbers text link = map (port_no text) link.ports

-- those of all links
abbrev pub link_ports : PlanTables → List (List (Option ℕ))
link_ports text = map (port_numbers text) text.links

-- the parts that a range leads to by their numbers
abbrev pub range_targets : PlanTables → RangeTable → List (Option ℕ)
range_targets text range = map (part_no text) range.to

-- those of the ranges of a map
abbrev pub map_targets : PlanTables → MapTable → List (List (Option ℕ))
map_targets text m = map (range_targets text) m.ranges

-- those of all maps
abbrev pub all_targets : PlanTables → List (List (List (Option ℕ)))
all_targets text = map (map_targets text) text.maps
