-- A part of any kind: its step is that of its kind.
use Rattle.std.specs.Prelude.{◌≡◌, ℕ, ◌*◌, ◌^◌, ◌<◌, ◌≤◌, List, length, Option, Some, Bool, true, false}
use Rattle.std.proofs.Common.{ap}
use Rattle.sim_base.specs.declared.time.TheConstants.{LATEST_TICK, LONGEST_PERIOD}
use Rattle.port_msg.specs.PortView.{PortView}
use Rattle.tick_law.specs.Machine.{Machine, Outcome}
use Rattle.tick_law.specs.Frame.{AllPorts, Framed}
use Rattle.tick_law.specs.Quiet.{Quiet}
use Rattle.traffic_parts.specs.Relay.{IsRelay, relay}
use Rattle.traffic_parts.specs.RelayLaws.{relay_framed, relay_stays, relay_quiet}
use Rattle.traffic_parts.specs.Agent.{IsAgent, agent}
use Rattle.traffic_parts.specs.AgentLaws.{agent_framed, agent_stays, agent_quiet, agent_due_later, agent_due_steady, agent_period_within}
use Rattle.mem_ctrl.specs.Memory.{IsMemory, memory}
use Rattle.mem_ctrl.specs.MemoryLaws.{memory_framed, memory_stays, memory_quiet, memory_due_later, memory_due_steady, memory_period_within}
use Rattle.rv_core.specs.Core.{IsCore, core}
use Rattle.rv_core.specs.CoreLaws.{core_framed, core_stays, core_quiet}
use Rattle.cache_comp.specs.Cache.{IsCache, cache}
use Rattle.cache_comp.specs.CacheLaws.{cache_framed, cache_stays, cache_quiet}
use Rattle.part_kind.specs.declared.part.Part.{Part}
use Rattle.part_kind.specs.declared.part.Part.TheVariants.{Relay, Agent, Memory, Core, Cache}

-- a step of one kind, read as a step of a part
abbrev pub as_part : {S : Type 0} → (S → Part) → Outcome S → Outcome Part
as_part make o = record { state = make o.state; ports = o.ports; records = o.records; flag = o.flag }

abbrev pub part_step : Part → List PortView → ℕ → Outcome Part
part_step (Relay s) ports n = as_part (λ r. Relay r) (relay.step s ports n)
part_step (Agent s) ports n = as_part (λ r. Agent r) (agent.step s ports n)
part_step (Memory s) ports n = as_part (λ r. Memory r) (memory.step s ports n)
part_step (Core s) ports n = as_part (λ r. Core r) (core.step s ports n)
part_step (Cache s) ports n = as_part (λ r. Cache r) (cache.step s ports n)

abbrev pub part_due : Part → ℕ → Option ℕ
part_due (Relay s) n = relay.due s n
part_due (Agent s) n = agent.due s n
part_due (Memory s) n = memory.due s n
part_due (Core s) n = core.due s n
part_due (Cache s) n = cache.due s n

abbrev pub part_period : Part → ℕ
part_period (Relay s) = relay.period s
part_period (Agent s) = agent.period s
part_period (Memory s) = memory.period s
part_period (Core s) = core.period s
part_period (Cache s) = cache.period s

abbrev pub part_done : Part → Bool
part_done (Relay s) = relay.done s
part_done (Agent s) = agent.done s
part_done (Memory s) = memory.done s
part_done (Core s) = core.done s
part_done (Cache s) = cache.done s

abbrev pub part_own : Part → ℕ
part_own (Relay s) = relay.own s
part_own (Agent s) = agent.own s
part_own (Memory s) = memory.own s
part_own (Core s) = core.own s
part_own (Cache s) = cache.own s

abbrev pub part : Machine Part
part = record { is_part = true; step = part_step; due = part_due; period = part_period; done = part_done; own = part_own }

abbrev pub IsValid : Part → Type 0
IsValid (Relay s) = IsRelay s
IsValid (Agent s) = IsAgent s
IsValid (Memory s) = IsMemory s
IsValid (Core s) = IsCore s
IsValid (Cache s) = IsCache s

pub part_framed : (s : Part) (ports : List PortView) (n : ℕ) → IsValid s → AllPorts ports → length ports ≡ part_own s → Framed Part part s ports n
part_framed (Relay s) ports n v o e = let f = relay_framed s ports n v o e in record { period = f.period; own = f.own; ports = f.ports; records = f.records }
part_framed (Agent s) ports n v o e = let f = agent_framed s ports n v o e in record { period = f.period; own = f.own; ports = f.ports; records = f.records }
part_framed (Memory s) ports n v o e = let f = memory_framed s ports n v o e in record { period = f.period; own = f.own; ports = f.ports; records = f.records }
part_framed (Core s) ports n v o e = let f = core_framed s ports n v o e in record { period = f.period; own = f.own; ports = f.ports; records = f.records }
part_framed (Cache s) ports n v o e = let f = cache_framed s ports n v o e in record { period = f.period; own = f.own; ports = f.ports; records = f.records }

pub part_stays : (s : Part) (ports : List PortView) (n : ℕ) → IsValid s → AllPorts ports → length ports ≡ part_own s → n * part_period s ≤ LATEST_TICK → IsValid (part_step s ports n).state × AllPorts (part_step s ports n).ports
part_stays (Relay s) ports n v o e b = relay_stays s ports n v o e b
part_stays (Agent s) ports n v o e b = agent_stays s ports n v o e b
part_stays (Memory s) ports n v o e b = memory_stays s ports n v o e b
part_stays (Core s) ports n v o e b = core_stays s ports n v o e b
part_stays (Cache s) ports n v o e b = cache_stays s ports n v o e b

pub part_quiet : (s : Part) (ports : List PortView) (n : ℕ) → IsValid s → length ports ≡ part_own s → (part_step s ports n).flag ≡ false → Quiet Part part s ports n
part_quiet (Relay s) ports n v e f = let q = relay_quiet s ports n v e f in record { state = ap (λ r. Relay r) q.state; ports = q.ports; records = q.records; later = q.later }
part_quiet (Agent s) ports n v e f = let q = agent_quiet s ports n v e f in record { state = ap (λ r. Agent r) q.state; ports = q.ports; records = q.records; later = q.later }
part_quiet (Memory s) ports n v e f = let q = memory_quiet s ports n v e f in record { state = ap (λ r. Memory r) q.state; ports = q.ports; records = q.records; later = q.later }
part_quiet (Core s) ports n v e f = let q = core_quiet s ports n v e f in record { state = ap (λ r. Core r) q.state; ports = q.ports; records = q.records; later = q.later }
part_quiet (Cache s) ports n v e f = let q = cache_quiet s ports n v e f in record { state = ap (λ r. Cache r) q.state; ports = q.ports; records = q.records; later = q.later }

pub part_due_later : (s : Part) (n t : ℕ) → IsValid s → part_due s n ≡ Some t → (n < t) × (t * part_period s < 2 ^ 50)
part_due_later (Relay s) n t v e = cc
part_due_later (Agent s) n t v e = agent_due_later s n t v e
part_due_later (Memory s) n t v e = memory_due_later s n t v e
part_due_later (Core s) n t v e = cc
part_due_later (Cache s) n t v e = cc

pub part_due_steady : (s : Part) (n k : ℕ) → IsValid s → n ≤ k → ((t : ℕ) → part_due s n ≡ Some t → k < t) → part_due s k ≡ part_due s n
part_due_steady (Relay s) n k v l h = cc
part_due_steady (Agent s) n k v l h = agent_due_steady s n k v l h
part_due_steady (Memory s) n k v l h = memory_due_steady s n k v l h
part_due_steady (Core s) n k v l h = cc
part_due_steady (Cache s) n k v l h = cc

pub part_period_within : (s : Part) → IsValid s → (0 < part_period s) × (part_period s ≤ LONGEST_PERIOD)
part_period_within (Relay s) v = (v.0, v.1)
part_period_within (Agent s) v = agent_period_within s v
part_period_within (Memory s) v = memory_period_within s v
part_period_within (Core s) v = (v.period_some, v.period_short)
part_period_within (Cache s) v = (v.period_some, v.period_short)
