-- A storm: agents that read and write four memories over one link, all at once.
use Rattle.std.specs.Prelude.{ℕ, ◌+◌, ◌*◌, ◌%◌, zero, suc, List, [], ◌∷◌, ◌++◌, codes}
use Rattle.std.specs.Fmt.{decimal}
use Rattle.sim_base.specs.declared.mode.Mode.TheVariants.{Mixed}
use Rattle.sim_config.specs.Tables.{RangeTable, MapTable, PartTable, LinkTable, PlanTables}
use Rattle.sim_config.specs.declared.part_text.PartKeys.TheVariants.{Agent, Memory}
use Rattle.sim_config.specs.declared.link_text.PortRef.{PortRef}
use Rattle.sim_config.specs.declared.link_text.LinkKeys.TheVariants.{Direct}

-- those of 0, 1, .. up to and without n
abbrev pub each : {A : Type 0} → (ℕ → A) → ℕ → List A
each f zero = []
each f (suc n) = each f n ++ f n ∷ []

abbrev pub agent_name : ℕ → List ℕ
agent_name i = codes "a" ++ decimal i

abbrev pub memory_name : ℕ → List ℕ
memory_name i = codes "m" ++ decimal i

-- agent i: a period of 1000 + 10 i ps, 256 requests that read or write as the drawn number says, at most 4 of which wait, the
-- first at cycle i at the earliest, and each 1 + i mod 4 cycles after the one before at the earliest
abbrev pub storm_agent : ℕ → PartTable
storm_agent i = record { name = agent_name i; period = 1000 + 10 * i; buffer = 4; kind = Agent (codes "all") 0 65536 256 4 (1 + i % 4) i Mixed (i + 1) }

-- memory i: a period of 1500 ps, 64 KiB, a latency of 20 cycles, room for 8 requests
abbrev pub storm_memory : ℕ → PartTable
storm_memory i = record { name = memory_name i; period = 1500; buffer = 4; kind = Memory 0 65536 20 8 [] }

-- the memories in turn, 64 bytes each
abbrev pub storm_range : RangeTable
storm_range = record { base = 0; size = 65536; to = each memory_name 4; granule = 64 }

abbrev pub storm_map : MapTable
storm_map = record { name = codes "all"; ranges = storm_range ∷ [] }

abbrev pub agent_port : ℕ → PortRef
agent_port i = record { part = agent_name i; word = codes "io" }

abbrev pub memory_port : ℕ → PortRef
memory_port i = record { part = memory_name i; word = codes "top" }

-- the link, with a period of 700 ps: the agents' ports and then the memories'
abbrev pub storm_link : ℕ → LinkTable
storm_link n = record { name = codes "net"; period = 700; ports = each agent_port n ++ each memory_port 4; kind = Direct }

-- the storm of n agents, up to 1,000,000,000 ps
abbrev pub storm_plan : ℕ → PlanTables
storm_plan n = record {
  until = record { 0 = 1000000000 };
  maps = storm_map ∷ [];
  parts = each storm_agent n ++ each storm_memory 4;
  links = storm_link n ∷ [];
  programs = [];
}
