-- The report of a run, line by line.
use Rattle.std.specs.Prelude.{ℕ, List, [], ◌∷◌, ◌++◌, Bool, true, false, Option, None, Some, codes, if◌then◌else◌}
use Rattle.std.specs.Fmt.{decimal}
use Rattle.std.specs.Int.{to_be_bytes, w32}
use Rattle.hex.specs.Hex.{encode_lower}
use Rattle.port_msg.specs.declared.records.Cause.{Cause}
use Rattle.trace_out.specs.Lines.{cause_text}
use Rattle.tick_law.specs.SerialLoop.{WorldState}
use Rattle.tick_law.specs.declared.verdict.Verdict.{Verdict}
use Rattle.tick_law.specs.declared.verdict.Verdict.TheVariants.{Finished, Stuck, Cut}
use Rattle.traffic_parts.specs.Relay.{RelayState, relay}
use Rattle.traffic_parts.specs.Agent.{AgentState, agent}
use Rattle.mem_ctrl.specs.Memory.{MemoryState, memory}
use Rattle.rv_core.specs.Core.{CoreState, cause_of, core}
use Rattle.cache_comp.specs.Cache.{CacheState, cache}
use Rattle.direct_link.specs.Direct.{DirectState}
use Rattle.part_kind.specs.declared.part.Part.{Part}
use Rattle.part_kind.specs.declared.part.Part.TheVariants.{Relay, Agent, Memory, Core, Cache}
use Rattle.part_kind.specs.declared.link_kind.LinkKind.{LinkKind}
use Rattle.part_kind.specs.declared.link_kind.LinkKind.TheVariants.{Direct}
use Rattle.task_stats.specs.Tasks.{TasksView, count_of}
use Rattle.task_stats.specs.declared.stats.TaskCount.{TaskCount}
use Rattle.trace_out.specs.Names.{NamesView}
use Rattle.state_view.specs.declared.run_end.RunEnd.{RunEnd}
use Rattle.state_view.specs.MemoryRows.{line_feed, memory_rows}
use Rattle.state_view.specs.RegsLine.{regs_line}

abbrev pub verdict_word : Verdict → List ℕ
verdict_word Finished = codes "finished"
verdict_word Stuck = codes "stuck"
verdict_word Cut = codes "cut"

abbrev pub done_word : Bool → List ℕ
done_word true = codes "done"
done_word false = codes "busy"

-- `verdict V`, `end T` and `budget B`, with times in picoseconds
abbrev pub head_lines : RunEnd → List ℕ
head_lines run = codes "verdict " ++ verdict_word run.verdict ++ codes "\nend " ++ decimal run.end.0 ++ codes "\nbudget " ++ decimal run.budget.0 ++ line_feed

-- `part NAME relay W sent S ended E`
abbrev pub relay_line : List ℕ → RelayState → List ℕ
relay_line name s = codes "part " ++ name ++ codes " relay " ++ done_word (relay.done s) ++ codes " sent " ++ decimal s.sent ++ codes " ended " ++ decimal s.ended ++ line_feed

-- `part NAME agent W issued I answered A sum S`
abbrev pub agent_line : List ℕ → AgentState → List ℕ
agent_line name s = codes "part " ++ name ++ codes " agent " ++ done_word (agent.done s) ++ codes " issued " ++ decimal s.issued ++ codes " answered " ++ decimal s.answered ++ codes " sum " ++ decimal s.total ++ line_feed

-- `part NAME memory W served S`
abbrev pub memory_line : List ℕ → MemoryState → List ℕ
memory_line name s = codes "part " ++ name ++ codes " memory " ++ done_word (memory.done s) ++ codes " served " ++ decimal s.served ++ line_feed

-- why a core halted, or `running` while it runs
abbrev pub cause_word : Option Cause → List ℕ
cause_word None = codes "running"
cause_word (Some cause) = cause_text cause

-- `pc XXXXXXXX retired R`: the address of the instruction that it is at, in 8 lower-case hexadecimal digits
abbrev pub core_counts : CoreState → List ℕ
core_counts s = codes " pc " ++ encode_lower (to_be_bytes w32 s.pc) ++ codes " retired " ++ decimal s.retired ++ line_feed

-- `part NAME core W CAUSE pc XXXXXXXX retired R`
abbrev pub core_line : List ℕ → CoreState → List ℕ
core_line name s = codes "part " ++ name ++ codes " core " ++ done_word (core.done s) ++ codes " " ++ cause_word (cause_of s.stage) ++ core_counts s

-- `hits H misses M`
abbrev pub cache_counts : CacheState → List ℕ
cache_counts s = codes " hits " ++ decimal s.hits ++ codes " misses " ++ decimal s.misses ++ line_feed

-- `part NAME cache W hits H misses M`
abbrev pub cache_line : List ℕ → CacheState → List ℕ
cache_line name s = codes "part " ++ name ++ codes " cache " ++ done_word (cache.done s) ++ cache_counts s

abbrev pub direct_counts : DirectState → List ℕ
direct_counts s = codes " direct moved " ++ decimal s.moved ++ codes " pointer " ++ decimal s.pointer ++ line_feed

-- `link NAME direct moved M pointer Q`
abbrev pub direct_line : List ℕ → DirectState → List ℕ
direct_line name s = codes "link " ++ name ++ direct_counts s

abbrev pub part_line : List ℕ → Part → List ℕ
part_line name (Relay s) = relay_line name s
part_line name (Agent s) = agent_line name s
part_line name (Memory s) = memory_line name s
part_line name (Core s) = core_line name s
part_line name (Cache s) = cache_line name s

abbrev pub link_line : List ℕ → LinkKind → List ℕ
link_line name (Direct s) = direct_line name s

-- a line for each, in order
abbrev pub lines_of : {S : Type 0} → (List ℕ → S → List ℕ) → List (List ℕ) → List S → List ℕ
lines_of line [] states = []
lines_of line (n ∷ ns) [] = []
lines_of line (n ∷ ns) (s ∷ ss) = line n s ++ lines_of line ns ss

-- a part that sends requests has a line of its tasks
abbrev pub has_tasks : Part → Bool
has_tasks (Relay s) = false
has_tasks (Agent s) = true
has_tasks (Memory s) = false
has_tasks (Core s) = true
has_tasks (Cache s) = true

-- `begun B ended E`
abbrev pub task_numbers : TaskCount → List ℕ
task_numbers count = codes " begun " ++ decimal count.begun ++ codes " ended " ++ decimal count.ended

-- `sum S greatest G`
abbrev pub task_times : TaskCount → List ℕ
task_times count = codes " sum " ++ decimal count.sum ++ codes " greatest " ++ decimal count.greatest ++ line_feed

-- `task NAME begun B ended E sum S greatest G`
abbrev pub task_line : List ℕ → TaskCount → List ℕ
task_line name count = codes "task " ++ name ++ task_numbers count ++ task_times count

-- the line of a part's tasks, if it has one
abbrev pub task_line_if : Bool → List ℕ → TaskCount → List ℕ
task_line_if true name count = task_line name count
task_line_if false name count = []

-- a line for each part that sends requests, in order
abbrev pub task_lines : List (List ℕ) → List Part → List TasksView → List ℕ
task_lines [] parts tasks = []
task_lines (n ∷ ns) [] tasks = []
task_lines (n ∷ ns) (p ∷ ps) [] = []
task_lines (n ∷ ns) (p ∷ ps) (t ∷ ts) = task_line_if (has_tasks p) n (count_of t) ++ task_lines ns ps ts

-- the tasks are told where they were counted
abbrev pub counted_lines : List (List ℕ) → List Part → Option (List TasksView) → List ℕ
counted_lines names parts None = []
counted_lines names parts (Some tasks) = task_lines names parts tasks

-- the bytes of a part, if it is a memory
abbrev pub bytes_of : List ℕ → Part → List ℕ
bytes_of name (Relay s) = []
bytes_of name (Agent s) = []
bytes_of name (Memory s) = memory_rows name s.base s.bytes
bytes_of name (Core s) = []
bytes_of name (Cache s) = []

-- the registers of a part, if it is a core
abbrev pub regs_of : List ℕ → Part → List ℕ
regs_of name (Relay s) = []
regs_of name (Agent s) = []
regs_of name (Memory s) = []
regs_of name (Core s) = regs_line name s
regs_of name (Cache s) = []

-- the registers of all cores and then the bytes of all memories, in order, where they are asked for
abbrev pub dump_lines : List (List ℕ) → List Part → Bool → List ℕ
dump_lines names parts true = lines_of regs_of names parts ++ lines_of bytes_of names parts
dump_lines names parts false = []

-- the whole report: the head, a line for each part and then for each link, the tasks where they were counted, and registers and
-- the bytes of memories where they are asked for
abbrev pub report_of : NamesView → WorldState Part LinkKind → RunEnd → Option (List TasksView) → Bool → List ℕ
report_of names world run tasks dump =
    head_lines run ++ lines_of part_line names.parts world.parts ++ lines_of link_line names.links world.links ++ counted_lines names.parts world.parts tasks ++ dump_lines names.parts world.parts dump
