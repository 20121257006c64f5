-- The keys of each table: their words, the numbers that they have, and what stands where one is left out.
use Rattle.std.specs.Prelude.{◌≡◌, ℕ, ◌%◌, ◌≤◌, ◌==◌, ◌&&◌, nat_le, min, Bool, true, IsTrue, List, [], ◌∷◌, Option, codes, if◌then◌else◌}
use Rattle.std.specs.Int.{is_power_of_two}
use Rattle.sim_config.specs.declared.keys.Allowed.{Allowed}
use Rattle.sim_config.specs.declared.keys.Shape.{Shape}
use Rattle.sim_config.specs.declared.keys.Shape.TheVariants.{Any, MultipleOf4, MultipleOf64, PowerOfTwo}
use Rattle.sim_config.specs.declared.keys.NumberKey.{NumberKey}
use Rattle.sim_config.specs.declared.keys.ListKey.{ListKey}
use Rattle.sim_config.specs.declared.keys.KeyWord.{KeyWord}
use Rattle.sim_config.specs.declared.keys.KeyWord.TheVariants.{Version as VersionWord, Until, Period, Base, Size, Granule, Buffer, Start, Span, Count, Window, Gap, Draw, Latency, Depth, Line, Sets, Ways, Misses, Pc, Map, Part, Link, Program, Range, To, Words, Ports}
use Rattle.sim_config.specs.declared.keys.TheConstants.{ADDRESS_LIMIT, AGENT_BASE, BASE, BUFFER, COUNT, DEPTH, DRAW, GAP, GRANULE, LATENCY, LINE, LINKS, MAPS, MEMORY_SIZE, MISSES, PARTS, PC, PERIOD, PORTS, PROGRAMS, RANGES, SETS, SIZE, SPAN, START, TO, TOKEN, UNTIL, VERSION, WAYS, WINDOW, WORDS, WORD_VALUES}
use Rattle.sim_config.specs.declared.kinds.PartKind.{PartKind}
use Rattle.sim_config.specs.declared.kinds.PartKind.TheVariants.{Relay, Agent, Memory, Cache, Core}
use Rattle.sim_config.specs.declared.kinds.LinkKind.{LinkKind}
use Rattle.sim_config.specs.declared.kinds.LinkKind.TheVariants.{Direct}
use Rattle.sim_config.specs.declared.version.Version.{Version}
use Rattle.sim_config.specs.declared.version.Version.TheVariants.{One, Two}

abbrev pub has_shape : Shape → ℕ → Bool
has_shape Any n = true
has_shape MultipleOf4 n = n % 4 == 0
has_shape MultipleOf64 n = n % 64 == 0
has_shape PowerOfTwo n = is_power_of_two n

-- the test whether a number is one of those allowed
abbrev pub allows : Allowed → ℕ → Bool
allows a n = nat_le a.least n && nat_le n a.greatest && has_shape a.shape n

abbrev pub HasShape : Shape → ℕ → Type 0
HasShape Any n = Unit {0}
HasShape MultipleOf4 n = n % 4 ≡ 0
HasShape MultipleOf64 n = n % 64 ≡ 0
HasShape PowerOfTwo n = IsTrue (is_power_of_two n)

-- a number is one of those allowed
pub record IsAllowed (a : Allowed) (n : ℕ) : Type 0 where
  pub least : a.least ≤ n
  pub greatest : n ≤ a.greatest
  pub shape : HasShape a.shape n

-- those that are not above a number
abbrev pub up_to : ℕ → Allowed → Allowed
up_to n a = record a { greatest = min a.greatest n }

-- the word of a key
abbrev pub key_word : KeyWord → List ℕ
key_word VersionWord = codes "version"
key_word Until = codes "until"
key_word Period = codes "period"
key_word Base = codes "base"
key_word Size = codes "size"
key_word Granule = codes "granule"
key_word Buffer = codes "buffer"
key_word Start = codes "start"
key_word Span = codes "span"
key_word Count = codes "count"
key_word Window = codes "window"
key_word Gap = codes "gap"
key_word Draw = codes "draw"
key_word Latency = codes "latency"
key_word Depth = codes "depth"
key_word Line = codes "line"
key_word Sets = codes "sets"
key_word Ways = codes "ways"
key_word Misses = codes "misses"
key_word Pc = codes "pc"
key_word Map = codes "map"
key_word Part = codes "part"
key_word Link = codes "link"
key_word Program = codes "program"
key_word Range = codes "range"
key_word To = codes "to"
key_word Words = codes "words"
key_word Ports = codes "ports"

-- a key that has a number, and the number where the key is left out
pub record NumberRow : Type 0 where
  pub word : List ℕ
  pub allowed : Allowed
  pub default : Option ℕ

abbrev pub number_row : NumberKey → NumberRow
number_row k = record { word = key_word k.key; allowed = k.allowed; default = k.default }

-- the key, with no number above this one
abbrev pub at_most : ℕ → NumberRow → NumberRow
at_most n row = record row { allowed = up_to n row.allowed }

-- a key that has a list, and whether the key may be left out, for the empty list
pub record ListRow : Type 0 where
  pub word : List ℕ
  pub lengths : Allowed
  pub is_optional : Bool

abbrev pub list_row : ListKey → ListRow
list_row k = record { word = key_word k.key; lengths = k.lengths; is_optional = k.is_optional }

-- the key, with no list longer than this
abbrev pub no_longer_than : ℕ → ListRow → ListRow
no_longer_than n row = record row { lengths = up_to n row.lengths }

-- An address is below this.
abbrev pub address_limit : ℕ
address_limit = ADDRESS_LIMIT

-- the document
abbrev pub version : NumberRow
version = number_row VERSION

-- what a number of the key stands for
abbrev pub version_of : ℕ → Version
version_of n = if n == 1 then One else Two

abbrev pub until : NumberRow
until = number_row UNTIL

abbrev pub maps : ListRow
maps = list_row MAPS

abbrev pub parts : ListRow
parts = list_row PARTS

abbrev pub links : ListRow
links = list_row LINKS

abbrev pub programs : ListRow
programs = list_row PROGRAMS

abbrev pub top_words : List (List ℕ)
top_words = version.word ∷ until.word ∷ maps.word ∷ parts.word ∷ links.word ∷ programs.word ∷ []

-- every table that has a name, and every table of a kind
abbrev pub name : List ℕ
name = codes "name"

abbrev pub kind : List ℕ
kind = codes "kind"

abbrev pub period : NumberRow
period = number_row PERIOD

-- a map
abbrev pub ranges : ListRow
ranges = list_row RANGES

abbrev pub map_words : List (List ℕ)
map_words = name ∷ ranges.word ∷ []

-- a range
abbrev pub base : NumberRow
base = number_row BASE

abbrev pub size : NumberRow
size = number_row SIZE

abbrev pub to : ListRow
to = list_row TO

abbrev pub granule : NumberRow
granule = number_row GRANULE

abbrev pub range_words : List (List ℕ)
range_words = base.word ∷ size.word ∷ to.word ∷ granule.word ∷ []

-- a part of every kind
abbrev pub buffer : NumberRow
buffer = number_row BUFFER

-- a relay; its `start` may be left out
abbrev pub target : List ℕ
target = codes "to"

abbrev pub token : NumberRow
token = number_row TOKEN

-- an agent
abbrev pub address_map : List ℕ
address_map = codes "map"

abbrev pub agent_base : NumberRow
agent_base = number_row AGENT_BASE

abbrev pub span : NumberRow
span = number_row SPAN

abbrev pub count : NumberRow
count = number_row COUNT

abbrev pub window : NumberRow
window = number_row WINDOW

abbrev pub gap : NumberRow
gap = number_row GAP

abbrev pub start : NumberRow
start = number_row START

abbrev pub mode : List ℕ
mode = codes "mode"

abbrev pub draw : NumberRow
draw = number_row DRAW

-- a memory
abbrev pub memory_size : NumberRow
memory_size = number_row MEMORY_SIZE

abbrev pub latency : NumberRow
latency = number_row LATENCY

abbrev pub depth : NumberRow
depth = number_row DEPTH

abbrev pub words : ListRow
words = list_row WORDS

abbrev pub word_values : Allowed
word_values = WORD_VALUES

-- a cache
abbrev pub line : NumberRow
line = number_row LINE

abbrev pub sets : NumberRow
sets = number_row SETS

abbrev pub ways : NumberRow
ways = number_row WAYS

abbrev pub misses : NumberRow
misses = number_row MISSES

-- a core
abbrev pub inst : List ℕ
inst = codes "inst"

abbrev pub data_map : List ℕ
data_map = codes "data"

abbrev pub pc : NumberRow
pc = number_row PC

abbrev pub part_words : List (List ℕ)
part_words = name ∷ kind ∷ period.word ∷ buffer.word ∷ []

abbrev pub cache_words : Version → List (List ℕ)
cache_words One = address_map ∷ line.word ∷ sets.word ∷ ways.word ∷ []
cache_words Two = address_map ∷ line.word ∷ sets.word ∷ ways.word ∷ misses.word ∷ []

abbrev pub part_kind_words : Version → PartKind → List (List ℕ)
part_kind_words _ Relay = target ∷ token.word ∷ []
part_kind_words _ Agent = address_map ∷ agent_base.word ∷ span.word ∷ count.word ∷ window.word ∷ gap.word ∷ start.word ∷ mode ∷ draw.word ∷ []
part_kind_words _ Memory = base.word ∷ memory_size.word ∷ latency.word ∷ depth.word ∷ words.word ∷ []
part_kind_words v Cache = cache_words v
part_kind_words _ Core = inst ∷ data_map ∷ pc.word ∷ []

-- a link
abbrev pub ports : ListRow
ports = list_row PORTS

abbrev pub link_words : List (List ℕ)
link_words = name ∷ kind ∷ period.word ∷ []

abbrev pub link_kind_words : LinkKind → List (List ℕ)
link_kind_words Direct = ports.word ∷ []

-- a program
abbrev pub program_core : List ℕ
program_core = codes "core"

abbrev pub program_file : List ℕ
program_file = codes "file"

abbrev pub program_words : List (List ℕ)
program_words = program_core ∷ program_file ∷ []
