-- The plan that a text means: names become port numbers.
use Rattle.std.specs.Prelude.{ℕ, ◌+◌, ◌≤◌, List, [], ◌∷◌, ◌++◌, map, length, slice_get, Option, Some, None, option_to_list, unwrap_or}
use Rattle.std.proofs.Common.{zero, suc}
use Rattle.sim_base.specs.declared.numbers.PortNo.{PortNo}
use Rattle.sim_config.specs.Tables.{PlanTables, PartTable, LinkTable}
use Rattle.sim_config.specs.declared.part_text.PartKeys.{PartKeys}
use Rattle.sim_config.specs.declared.part_text.PartKeys.TheVariants as keys
use Rattle.tick_law.specs.PlanView.{PlanView}
use Rattle.tick_law.specs.declared.port_plan.PortPlan.{PortPlan}
use Rattle.elf_load.specs.declared.image.Image.{Image}
use Rattle.traffic_parts.specs.Relay as relay
use Rattle.traffic_parts.specs.Agent as agent
use Rattle.mem_ctrl.specs.Memory as memory
use Rattle.rv_core.specs.Core as core
use Rattle.cache_comp.specs.Cache as cache
use Rattle.direct_link.specs.Direct as direct
use Rattle.part_kind.specs.declared.part.Part.{Part}
use Rattle.part_kind.specs.declared.part.Part.TheVariants as parts
use Rattle.part_kind.specs.declared.link_kind.LinkKind.{LinkKind}
use Rattle.part_kind.specs.declared.link_kind.LinkKind.TheVariants as links
use Rattle.plan_rules.specs.declared.port_word.PortWord.{PortWord}
use Rattle.plan_rules.specs.Kinds.{port_words, port_count, word_text}
use Rattle.plan_rules.specs.Text.{◌>>=◌, part_no, first_port, port_numbers, link_ports}
use Rattle.plan_rules.specs.Rules.{link_of}
use Rattle.plan_check.specs.Fields.{field_names}
use Rattle.plan_check.specs.Maps.{port_to, map_of}
use Rattle.plan_check.specs.Caches.{all_caches, tops_of}
use Rattle.plan_check.specs.Programs.{all_loads, opening_bytes, first_pc}

-- 0, 1, .. up to and without n
abbrev pub up_to : ℕ → List ℕ
up_to zero = []
up_to (suc n) = up_to n ++ n ∷ []

-- the second port of a part
abbrev pub second_port : PlanTables → ℕ → PortNo
second_port text i = record { 0 = first_port text i + 1 }

-- the part of a number as its kind opens it
abbrev pub part_with : PlanTables → List Image → ℕ → PartTable → PartKeys → Part
part_with text images i table (keys.Relay to start) = parts.Relay (relay.opening (record { actor = record { 0 = i }; period = table.period; io = port_to text (Some i); to = port_to text (part_no text to); start = start }))
part_with text images i table (keys.Agent m base span count window gap start mode draw) = parts.Agent (agent.agent_opening (record { actor = record { 0 = i }; period = table.period; io = port_to text (Some i); map = map_of text m; base = base; span = span; count = count; window = window; gap = gap; start = start; mode = mode; draw = draw }))
part_with text images i table (keys.Memory base size latency depth words) = parts.Memory (memory.opening (record { actor = record { 0 = i }; period = table.period; top = port_to text (Some i); base = base; size = size; latency = latency; depth = depth; bytes = opening_bytes (all_loads text images) (port_to text (Some i)) base size words }))
part_with text images i table (keys.Cache m line sets ways misses) = parts.Cache (cache.opening (record { actor = record { 0 = i }; period = table.period; top = port_to text (Some i); bottom = second_port text i; map = map_of text m; caches = tops_of (all_caches text) (map_of text m); line = line; sets = sets; ways = ways; misses = misses }))
part_with text images i table (keys.Core inst_map data_map pc) = parts.Core (core.opening (record { actor = record { 0 = i }; period = table.period; inst_port = port_to text (Some i); data_port = second_port text i; inst_map = map_of text inst_map; data_map = map_of text data_map; caches = tops_of (all_caches text) (map_of text data_map); pc = first_pc text images table.name pc }))

unfoldable pub part_of : PlanTables → List Image → ℕ → PartTable → Part
part_of text images i table = part_with text images i table table.kind

-- the first so many parts
abbrev pub parts_to : PlanTables → List Image → ℕ → List Part
parts_to text images zero = []
parts_to text images (suc n) = parts_to text images n ++ option_to_list (slice_get text.parts n >>= (λ table. Some (part_of text images n table)))

-- the ports of a link by their numbers
abbrev pub own_of_link : List (Option ℕ) → List ℕ
own_of_link ports = map (λ port. unwrap_or port 0) ports

-- the link of a number as its kind opens it
abbrev pub link_with : PlanTables → ℕ → LinkTable → LinkKind
link_with text l table = links.Direct (direct.opening (record { actor = record { 0 = length text.parts + l }; period = table.period; ports = map (λ port. record { 0 = unwrap_or port 0 }) (port_numbers text table) }))

-- the first so many links
abbrev pub links_to : PlanTables → ℕ → List LinkKind
links_to text zero = []
links_to text (suc n) = links_to text n ++ option_to_list (slice_get text.links n >>= (λ table. Some (link_with text n table)))

-- the port of a part that has a place among its ports
abbrev pub port_plan : PlanTables → ℕ → ℕ → ℕ → PortWord → PortPlan
port_plan text i buffer place word = record { cap = buffer; part = record { 0 = i }; link = record { 0 = unwrap_or (link_of text (first_port text i + place)) 0 }; word = word_text word }

-- a port with room for 1 to 64 messages in each list
pub record HasCapacity (p : PortPlan) : Type 0 where
  pub some : 1 ≤ p.cap
  pub few : p.cap ≤ 64

-- each of some words with its place, counted from one
abbrev pub port_plans : PlanTables → ℕ → ℕ → ℕ → List PortWord → List PortPlan
port_plans text i buffer place [] = []
port_plans text i buffer place (word ∷ words) = port_plan text i buffer place word ∷ port_plans text i buffer (place + 1) words

abbrev pub ports_of_part : PlanTables → ℕ → Option PartTable → List PortPlan
ports_of_part text i None = []
ports_of_part text i (Some table) = port_plans text i table.buffer 0 (port_words table.kind)

-- the ports of the first so many parts
abbrev pub ports_to : PlanTables → ℕ → List PortPlan
ports_to text zero = []
ports_to text (suc n) = ports_to text n ++ ports_of_part text n (slice_get text.parts n)

-- how many ports the part of a number has
abbrev pub count_of : Option PartTable → ℕ
count_of None = 0
count_of (Some table) = port_count table.kind

-- so many numbers from the first on
abbrev pub numbers_from : ℕ → ℕ → List ℕ
numbers_from first count = map (λ place. first + place) (up_to count)

-- the own ports of the first so many parts
abbrev pub own_to : PlanTables → ℕ → List (List ℕ)
own_to text zero = []
own_to text (suc n) = own_to text n ++ numbers_from (first_port text n) (count_of (slice_get text.parts n)) ∷ []

-- the plan of a text with these programs
abbrev pub plan_of : PlanTables → List Image → PlanView Part LinkKind
plan_of text images = record {
  parts = parts_to text images (length text.parts);
  links = links_to text (length text.links);
  part_names = map (λ (p : PartTable). p.name) text.parts;
  link_names = map (λ (l : LinkTable). l.name) text.links;
  fields = map (λ (p : PartTable). field_names p.kind) text.parts;
  ports = ports_to text (length text.parts);
  own = own_to text (length text.parts) ++ map own_of_link (link_ports text);
  until = text.until.0;
}
