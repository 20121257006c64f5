-- The runs of two agents that read a word each through one cache, of one miss or of two. All have one period, and times are told in
-- periods.
use Rattle.std.specs.Prelude.{◌≡◌, ℕ, List, [], ◌∷◌, ◌++◌, replicate, true, false}
use Rattle.port_msg.specs.PortView.{PortView, port_view}
use Rattle.sim_base.specs.declared.mode.Mode.{Mode}
use Rattle.addr_map.specs.declared.range.Range.{Range}
use Rattle.addr_map.specs.Range.{range_of}
use Rattle.tick_law.specs.SerialLoop.{System, WorldState, beginning, world_at}
use Rattle.tick_law.specs.Verdict.{verdict_at, end_at}
use Rattle.tick_law.specs.declared.verdict.Verdict.TheVariants.{Finished}
use Rattle.traffic_parts.specs.Agent.{AgentState}
use Rattle.mem_ctrl.specs.Memory.{MemoryState}
use Rattle.cache_comp.specs.Lines.{LinesState, unused_lines}
use Rattle.cache_comp.specs.Cache.{CacheState, rest}
use Rattle.direct_link.specs.Direct.{DirectState}
use Rattle.part_kind.specs.Part.{part}
use Rattle.part_kind.specs.LinkKind.{link}
use Rattle.part_kind.specs.declared.part.Part.{Part}
use Rattle.part_kind.specs.declared.part.Part.TheVariants.{Agent, Memory, Cache}
use Rattle.part_kind.specs.declared.link_kind.LinkKind.{LinkKind}
use Rattle.part_kind.specs.declared.link_kind.LinkKind.TheVariants.{Direct}
use Rattle.model_rows.specs.Messages.{port}
use Rattle.model_rows.specs.LineRows.{tag}

-- all addresses lead to this port
abbrev pub leads_to : ℕ → List Range
leads_to q = range_of 0 128 64 (port q ∷ []) ∷ []

-- the agent of this number, which asks for one word of the 64 bytes from a base on, with how many it has sent and were answered, its
-- sum, its next cycle and its value
abbrev pub agent_at : ℕ → ℕ → ℕ → ℕ → ℕ → ℕ → ℕ → AgentState
agent_at number base issued answered total next value = record {
  part = record { 0 = number };
  io = port number;
  period = 1;
  ranges = leads_to 2;
  base = base;
  span = 64;
  count = 1;
  window = 1;
  gap = 1;
  mode = Mode.Read;
  issued = issued;
  answered = answered;
  total = total;
  next = next;
  value = value;
}

-- the cache of so many misses at once, with nothing in hand
abbrev pub cache_at : ℕ → ℕ → ℕ → LinesState → CacheState
cache_at miss_room misses requests lines = record {
  part = record { 0 = 2 };
  top = port 2;
  bottom = port 3;
  period = 1;
  below = leads_to 4;
  caches = [];
  miss_room = miss_room;
  lines = lines;
  hits = 0;
  misses = misses;
  requests = requests;
  stage = rest miss_room;
  table = [];
  ready = [];
}

-- the bytes of a line whose last word is this
abbrev pub line_of : ℕ → List ℕ
line_of word = replicate 12 0 ++ word ∷ replicate 3 0

-- the memory, which answers after ten cycles: its words are 5 at 12 and 7 at 76, and else 0
abbrev pub memory_at : ℕ → MemoryState
memory_at served = record { top = port 4; period = 1; base = 0; latency = 10; depth = 4; bytes = line_of 5 ++ replicate 48 0 ++ line_of 7 ++ replicate 48 0; queue = []; served = served }

abbrev pub link_at : ℕ → ℕ → DirectState
link_at pointer moved = record { numbers = port 0 ∷ port 1 ∷ port 2 ∷ port 3 ∷ port 4 ∷ []; period = 1; pointer = pointer; moved = moved }

abbrev pub empty_ports : List PortView
empty_ports = replicate 5 (port_view [] [] 4)

-- the two agents, whose words are the fourth ones of their 64 bytes, the cache, with room for two lines of 16 bytes, and the memory
abbrev pub two_agents : ℕ → System Part LinkKind
two_agents miss_room = record {
  part = part;
  link = link;
  part_wires = record { own = (0 ∷ []) ∷ (1 ∷ []) ∷ (2 ∷ 3 ∷ []) ∷ (4 ∷ []) ∷ []; owner = 0 ∷ 1 ∷ 2 ∷ 2 ∷ 3 ∷ [] };
  link_wires = record { own = (0 ∷ 1 ∷ 2 ∷ 3 ∷ 4 ∷ []) ∷ []; owner = 0 ∷ 0 ∷ 0 ∷ 0 ∷ 0 ∷ [] };
  start = beginning (record {
    parts = Agent (agent_at 0 0 0 0 0 0 0) ∷ Agent (agent_at 1 64 0 0 0 0 0) ∷ Cache (cache_at miss_room 0 0 (unused_lines 16 1 2)) ∷ Memory (memory_at 0) ∷ [];
    links = Direct (link_at 0 0) ∷ [];
    ports = empty_ports;
  });
}

-- the cache's lines at the end: that of the first agent was used first
abbrev pub both_lines : LinesState
both_lines = record { line = 16; sets = 1; ways = 2; tags = tag true false 0 1 ∷ tag true false 64 2 ∷ []; bytes = line_of 5 ++ line_of 7; greatest = 2 }

-- both agents have their words, each by a miss
abbrev pub at_the_end : ℕ → WorldState Part LinkKind
at_the_end miss_room = record {
  parts = Agent (agent_at 0 0 1 1 5 1 1013904223) ∷ Agent (agent_at 1 64 1 1 7 1 1013904223) ∷ Cache (cache_at miss_room 2 2 both_lines) ∷ Memory (memory_at 2) ∷ [];
  links = Direct (link_at 2 8) ∷ [];
  ports = empty_ports;
}

pub record OneAtATime : Type 0 where
  pub world : world_at (two_agents 1) 32 ≡ at_the_end 1
  pub end : end_at (two_agents 1) 32 ≡ 31
  pub verdict : verdict_at (two_agents 1) 32 ≡ Finished

-- the second miss waits beside the first one
pub record TwoAtOnce : Type 0 where
  pub world : world_at (two_agents 2) 18 ≡ at_the_end 2
  pub end : end_at (two_agents 2) 18 ≡ 17
  pub verdict : verdict_at (two_agents 2) 18 ≡ Finished
