-- The fields that are shown of each kind of part.
use Rattle.std.specs.Prelude.{ℕ, zero, suc, List, [], ◌∷◌, ◌++◌, length, map, Option, Some, None, codes, decimal}
use Rattle.port_msg.specs.declared.records.Cause.{Cause}
use Rattle.trace_out.specs.Lines.{cause_text}
use Rattle.traffic_parts.specs.Relay.{RelayState}
use Rattle.traffic_parts.specs.Agent.{AgentState}
use Rattle.mem_ctrl.specs.Memory.{MemoryState}
use Rattle.rv_isa.specs.Regs.{register}
use Rattle.rv_core.specs.Core.{CoreState, phase_of, cause_of}
use Rattle.rv_core.specs.declared.phase.CorePhase.{CorePhase}
use Rattle.rv_core.specs.declared.phase.CorePhase.TheVariants.{Fetch, WaitInst, Mem, WaitData, Flush, WaitFlush, Halted}
use Rattle.cache_comp.specs.Cache.{CacheState, phase_of as cache_phase_of, pending}
use Rattle.part_kind.specs.declared.part.Part.{Part}
use Rattle.part_kind.specs.declared.part.Part.TheVariants.{Relay, Agent, Memory, Core, Cache}
use Rattle.serde_json.specs.Data.{Data, null, number, unsigned, string}
use Rattle.part_view.specs.CachePhases.{cache_phase_word}
use Rattle.part_view.specs.declared.shown.Shown.{Shown}
use Rattle.part_view.specs.declared.shown.Shown.TheVariants.{Nothing, Number, Cause as Halt, CorePhase as InCore, CachePhase as InCache}

abbrev pub kind_word : Part → List ℕ
kind_word (Relay s) = codes "relay"
kind_word (Agent s) = codes "agent"
kind_word (Memory s) = codes "memory"
kind_word (Core s) = codes "core"
kind_word (Cache s) = codes "cache"

-- the words of the phases of cores
abbrev pub core_phase_word : CorePhase → List ℕ
core_phase_word Fetch = codes "fetch"
core_phase_word WaitInst = codes "wait-inst"
core_phase_word Mem = codes "mem"
core_phase_word WaitData = codes "wait-data"
core_phase_word Flush = codes "flush"
core_phase_word WaitFlush = codes "wait-flush"
core_phase_word Halted = codes "halted"

-- the JSON of what a field shows
abbrev pub shown_data : Shown → Data
shown_data Nothing = null
shown_data (Number n) = number (unsigned n)
shown_data (Halt cause) = string (cause_text cause)
shown_data (InCore phase) = string (core_phase_word phase)
shown_data (InCache phase) = string (cache_phase_word phase)

-- a number, where there is one
abbrev pub number_or_nothing : Option ℕ → Shown
number_or_nothing None = Nothing
number_or_nothing (Some n) = Number n

-- why a core halted, where it has
abbrev pub cause_or_nothing : Option Cause → Shown
cause_or_nothing None = Nothing
cause_or_nothing (Some cause) = Halt cause

-- a field: its name, and what it shows
abbrev pub Field : Type 0
Field = List ℕ × Shown

-- the first so many registers, `x0` and on
unfoldable pub register_fields : List ℕ → ℕ → List Field
register_fields regs zero = []
register_fields regs (suc n) = register_fields regs n ++ (codes "x" ++ decimal n, Number (register regs n)) ∷ []

-- the fields of a part of each kind, in their order
abbrev pub relay_fields : RelayState → List Field
relay_fields s = (codes "ended", Number s.ended) ∷ (codes "holds", number_or_nothing s.holds) ∷ (codes "sent", Number s.sent) ∷ []

abbrev pub agent_fields : AgentState → List Field
agent_fields s = (codes "answered", Number s.answered) ∷ (codes "issued", Number s.issued) ∷ (codes "next", Number s.next) ∷ (codes "sum", Number s.total) ∷ []

abbrev pub memory_fields : MemoryState → List Field
memory_fields s = (codes "queue", Number (length s.queue)) ∷ (codes "served", Number s.served) ∷ []

-- what a core has before its registers
abbrev pub core_head : CoreState → List Field
core_head s = (codes "cause", cause_or_nothing (cause_of s.stage)) ∷ (codes "pc", Number s.pc) ∷ (codes "phase", InCore (phase_of s.stage)) ∷ (codes "retired", Number s.retired) ∷ []

abbrev pub core_fields : CoreState → List Field
core_fields s = core_head s ++ register_fields s.regs 32

abbrev pub cache_fields : CacheState → List Field
cache_fields s = (codes "hits", Number s.hits) ∷ (codes "misses", Number s.misses) ∷ (codes "pending", Number (pending s)) ∷ (codes "phase", InCache (cache_phase_of s.stage)) ∷ []

abbrev pub fields_of_part : Part → List Field
fields_of_part (Relay s) = relay_fields s
fields_of_part (Agent s) = agent_fields s
fields_of_part (Memory s) = memory_fields s
fields_of_part (Core s) = core_fields s
fields_of_part (Cache s) = cache_fields s

-- the names of fields, and what they show
abbrev pub names : List Field → List (List ℕ)
names fields = map (λ (field : Field). field.0) fields

abbrev pub values : List Field → List Shown
values fields = map (λ (field : Field). field.1) fields

abbrev pub values_of : Part → List Shown
values_of part = values (fields_of_part part)
