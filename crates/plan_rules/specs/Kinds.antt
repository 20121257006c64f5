-- What the rules of plans ask of the kinds of parts: a row for each kind in each table.
use Rattle.std.specs.Prelude.{ℕ, List, [], ◌∷◌, length, Option, Some, None, codes}
use Rattle.sim_config.specs.declared.part_text.PartKeys.{PartKeys}
use Rattle.sim_config.specs.declared.part_text.PartKeys.TheVariants.{Relay, Agent, Memory, Cache, Core}
use Rattle.plan_rules.specs.declared.port_word.PortWord.{PortWord}
use Rattle.plan_rules.specs.declared.port_word.PortWord.TheVariants.{Io, Top, Bottom, Inst, Data}

-- the text of a port's word
abbrev pub word_text : PortWord → List ℕ
word_text Io = codes "io"
word_text Top = codes "top"
word_text Bottom = codes "bottom"
word_text Inst = codes "inst"
word_text Data = codes "data"

-- the ports of a part in their order; what is sent to the part comes in at the first
abbrev pub port_words : PartKeys → List PortWord
port_words (Relay to start) = Io ∷ []
port_words (Agent map base span count window gap start mode draw) = Io ∷ []
port_words (Memory base size latency depth words) = Top ∷ []
port_words (Cache map line sets ways misses) = Top ∷ Bottom ∷ []
port_words (Core inst_map data_map pc) = Inst ∷ Data ∷ []

-- how many ports they are
abbrev pub port_count : PartKeys → ℕ
port_count keys = length (port_words keys)

-- the part that it names as its target
abbrev pub target_name : PartKeys → Option (List ℕ)
target_name (Relay to start) = Some to
target_name _ = None

-- the map by which it sends from its first port
abbrev pub first_map : PartKeys → Option (List ℕ)
first_map (Relay to start) = None
first_map (Agent map base span count window gap start mode draw) = Some map
first_map (Memory base size latency depth words) = None
first_map (Cache map line sets ways misses) = None
first_map (Core inst_map data_map pc) = Some inst_map

-- the map by which it sends from its second port
abbrev pub second_map : PartKeys → Option (List ℕ)
second_map (Relay to start) = None
second_map (Agent map base span count window gap start mode draw) = None
second_map (Memory base size latency depth words) = None
second_map (Cache map line sets ways misses) = Some map
second_map (Core inst_map data_map pc) = Some data_map

-- how many bytes it holds as a memory
abbrev pub memory_bytes : PartKeys → ℕ
memory_bytes (Memory base size latency depth words) = size
memory_bytes _ = 0
