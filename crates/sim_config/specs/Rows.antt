-- The rows of the keys, number by number, as the tables of a configuration are written down for their readers.
use Rattle.std.specs.Prelude.{◌≡◌, ℕ, List, [], ◌∷◌, Option, Some, None, Bool, true, false, codes}
use Rattle.sim_config.specs.declared.keys.Shape.{Shape}
use Rattle.sim_config.specs.declared.keys.Shape.TheVariants.{Any, MultipleOf4, MultipleOf64, PowerOfTwo}
use Rattle.sim_config.specs.declared.kinds.PartKind.TheVariants.{Relay, Agent, Memory, Cache, Core}
use Rattle.sim_config.specs.declared.kinds.LinkKind.TheVariants.{Direct}
use Rattle.sim_config.specs.declared.version.Version.{Version}
use Rattle.sim_config.specs.declared.version.Version.TheVariants.{One, Two}
use Rattle.sim_config.specs.Keys
use Rattle.sim_config.specs.Keys.{NumberRow, ListRow}

-- a key of one number: its word, the least and the greatest number, their shape, and what stands where it is left out
abbrev pub number : List ℕ → ℕ → ℕ → Shape → Option ℕ → NumberRow
number word least greatest shape default = record { word = word; allowed = record { least = least; greatest = greatest; shape = shape }; default = default }

-- a key of a list: its word, the least and the greatest length, their shape, and whether it may be left out
abbrev pub list : List ℕ → ℕ → ℕ → Shape → Bool → ListRow
list word least greatest shape is_optional = record { word = word; lengths = record { least = least; greatest = greatest; shape = shape }; is_optional = is_optional }

pub record TopRows : Type 0 where
  pub version : Keys.version ≡ number (codes "version") 1 2 Any None
  pub until : Keys.until ≡ number (codes "until") 0 500000000000 Any (Some 500000000000)
  pub maps : Keys.maps ≡ list (codes "map") 0 18446744073709551615 Any true
  pub parts : Keys.parts ≡ list (codes "part") 0 18446744073709551615 Any true
  pub links : Keys.links ≡ list (codes "link") 0 18446744073709551615 Any true
  pub programs : Keys.programs ≡ list (codes "program") 0 18446744073709551615 Any true

pub record MapRows : Type 0 where
  pub ranges : Keys.ranges ≡ list (codes "range") 1 64 Any false
  pub base : Keys.base ≡ number (codes "base") 0 4294967232 MultipleOf64 None
  pub size : Keys.size ≡ number (codes "size") 64 4294967296 MultipleOf64 None
  pub to : Keys.to ≡ list (codes "to") 1 16 PowerOfTwo false
  pub granule : Keys.granule ≡ number (codes "granule") 64 2147483648 PowerOfTwo (Some 64)
  pub address_limit : Keys.address_limit ≡ 4294967296

pub record PartRows : Type 0 where
  pub period : Keys.period ≡ number (codes "period") 1 1000000000 Any None
  pub buffer : Keys.buffer ≡ number (codes "buffer") 1 64 Any (Some 4)
  pub token : Keys.token ≡ number (codes "start") 1 1000000 Any None

pub record AgentRows : Type 0 where
  pub base : Keys.agent_base ≡ number (codes "base") 0 4294967292 MultipleOf4 None
  pub span : Keys.span ≡ number (codes "span") 4 4294967296 MultipleOf4 None
  pub count : Keys.count ≡ number (codes "count") 0 1000000 Any None
  pub window : Keys.window ≡ number (codes "window") 1 64 Any (Some 1)
  pub gap : Keys.gap ≡ number (codes "gap") 1 1000000 Any (Some 1)
  pub start : Keys.start ≡ number (codes "start") 0 1000000 Any (Some 0)
  pub draw : Keys.draw ≡ number (codes "draw") 0 4294967295 Any (Some 0)

pub record MemoryRows : Type 0 where
  pub size : Keys.memory_size ≡ number (codes "size") 64 268435456 MultipleOf64 None
  pub latency : Keys.latency ≡ number (codes "latency") 1 1000000 Any (Some 1)
  pub depth : Keys.depth ≡ number (codes "depth") 1 64 Any (Some 4)
  pub words : Keys.words ≡ list (codes "words") 0 18446744073709551615 Any true
  pub word_values : Keys.word_values ≡ record { least = 0; greatest = 4294967295; shape = Any }

pub record CacheRows : Type 0 where
  pub line : Keys.line ≡ number (codes "line") 16 64 PowerOfTwo (Some 64)
  pub sets : Keys.sets ≡ number (codes "sets") 1 1024 PowerOfTwo None
  pub ways : Keys.ways ≡ number (codes "ways") 1 16 Any None
  pub misses : Keys.misses ≡ number (codes "misses") 1 8 Any (Some 1)

pub record CoreRows : Type 0 where
  pub pc : Keys.pc ≡ number (codes "pc") 0 4294967295 Any (Some 0)

pub record LinkRows : Type 0 where
  pub ports : Keys.ports ≡ list (codes "ports") 1 1024 Any false

-- the words of each table, in the order in which its keys are read, where they are those of both versions
pub record WordRows : Type 0 where
  pub top : Keys.top_words ≡ codes "version" ∷ codes "until" ∷ codes "map" ∷ codes "part" ∷ codes "link" ∷ codes "program" ∷ []
  pub map : Keys.map_words ≡ codes "name" ∷ codes "range" ∷ []
  pub range : Keys.range_words ≡ codes "base" ∷ codes "size" ∷ codes "to" ∷ codes "granule" ∷ []
  pub part : Keys.part_words ≡ codes "name" ∷ codes "kind" ∷ codes "period" ∷ codes "buffer" ∷ []
  pub relay : (version : Version) → Keys.part_kind_words version Relay ≡ codes "to" ∷ codes "start" ∷ []
  pub agent : (version : Version) → Keys.part_kind_words version Agent ≡ codes "map" ∷ codes "base" ∷ codes "span" ∷ codes "count" ∷ codes "window" ∷ codes "gap" ∷ codes "start" ∷ codes "mode" ∷ codes "draw" ∷ []
  pub memory : (version : Version) → Keys.part_kind_words version Memory ≡ codes "base" ∷ codes "size" ∷ codes "latency" ∷ codes "depth" ∷ codes "words" ∷ []
  pub core : (version : Version) → Keys.part_kind_words version Core ≡ codes "inst" ∷ codes "data" ∷ codes "pc" ∷ []
  pub link : Keys.link_words ≡ codes "name" ∷ codes "kind" ∷ codes "period" ∷ []
  pub direct : Keys.link_kind_words Direct ≡ codes "ports" ∷ []
  pub program : Keys.program_words ≡ codes "core" ∷ codes "file" ∷ []

-- the words of a cache in each version
pub record CacheWordRows : Type 0 where
  pub one : Keys.part_kind_words One Cache ≡ codes "map" ∷ codes "line" ∷ codes "sets" ∷ codes "ways" ∷ []
  pub two : Keys.part_kind_words Two Cache ≡ codes "map" ∷ codes "line" ∷ codes "sets" ∷ codes "ways" ∷ codes "misses" ∷ []
