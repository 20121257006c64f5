-- The lists of a body: what stands in them for a part or a port.
use Rattle.std.specs.Prelude.{ℕ, ◌==◌, ◌||◌, List, [], ◌∷◌, ◌++◌, length, Bool, true, false, Option, None, Some, option_to_list, codes}
use Rattle.port_msg.specs.PortView.{PortView}
use Rattle.rv_core.specs.Core.{is_halted}
use Rattle.part_kind.specs.Part.{part as kinds}
use Rattle.part_kind.specs.declared.part.Part.{Part}
use Rattle.part_kind.specs.declared.part.Part.TheVariants.{Relay, Agent, Memory, Core, Cache}
use Rattle.serde_json.specs.Data.{Data, number, unsigned, boolean, string, object, no_members, member}
use Rattle.world_query.specs.Legend.{PortLabel}
use Rattle.part_view.specs.Fields.{kind_word}
use Rattle.part_view.specs.declared.entries.PartList.{PartList}
use Rattle.part_view.specs.declared.entries.PartList.TheVariants.{All, Agents, Cores, Busy}
use Rattle.part_view.specs.declared.entries.PortList.{PortList}
use Rattle.part_view.specs.declared.entries.PortList.TheVariants.{Lengths, Full}

abbrev pub number_of : ℕ → Data
number_of n = number (unsigned n)

-- `{"kind":K,"name":N}`
abbrev pub kind_entry : List ℕ → Part → Data
kind_entry name part = object (member (codes "kind") (string (kind_word part)) (member (codes "name") (string name) no_members))

-- `{"answered":A,"count":C,"name":N}` of an agent
abbrev pub agent_entry : List ℕ → Part → Option Data
agent_entry name (Agent s) = Some (object (member (codes "answered") (number_of s.answered) (member (codes "count") (number_of s.count) (member (codes "name") (string name) no_members))))
agent_entry name (Relay s) = None
agent_entry name (Memory s) = None
agent_entry name (Core s) = None
agent_entry name (Cache s) = None

-- `{"halted":H,"name":N,"retired":R}` of a core
abbrev pub core_entry : List ℕ → Part → Option Data
core_entry name (Core s) = Some (object (member (codes "halted") (boolean (is_halted s.stage)) (member (codes "name") (string name) (member (codes "retired") (number_of s.retired) no_members))))
core_entry name (Relay s) = None
core_entry name (Agent s) = None
core_entry name (Memory s) = None
core_entry name (Cache s) = None

-- something, unless a test holds
abbrev pub unless : Bool → Data → Option Data
unless true d = None
unless false d = Some d

-- what stands in a list for a part
abbrev pub part_entry : PartList → List ℕ → Part → Option Data
part_entry All name part = Some (kind_entry name part)
part_entry Agents name part = agent_entry name part
part_entry Cores name part = core_entry name part
part_entry Busy name part = unless (kinds.done part) (string name)

-- `{"cap":C,"in":I,"out":O,"port":"PART.PORT"}`
abbrev pub lengths_entry : PortLabel → PortView → Data
lengths_entry label port = object (member (codes "cap") (number_of label.cap) (member (codes "in") (number_of (length port.incoming)) (member (codes "out") (number_of (length port.outgoing)) (member (codes "port") (string label.name) no_members))))

-- a list of a port has no room
abbrev pub has_full_list : PortLabel → PortView → Bool
has_full_list label port = (length port.incoming == label.cap) || (length port.outgoing == label.cap)

abbrev pub where_true : Bool → Data → Option Data
where_true true d = Some d
where_true false d = None

-- what stands in a list for a port
abbrev pub port_entry : PortList → PortLabel → PortView → Option Data
port_entry Lengths label port = Some (lengths_entry label port)
port_entry Full label port = where_true (has_full_list label port) (string label.name)

-- what stands in a list for all of them, in order
abbrev pub entries : {N S : Type 0} → (N → S → Option Data) → List N → List S → List Data
entries entry [] states = []
entries entry (n ∷ ns) [] = []
entries entry (n ∷ ns) (s ∷ ss) = option_to_list (entry n s) ++ entries entry ns ss
