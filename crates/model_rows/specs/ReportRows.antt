-- Reports of runs of agents and memories, each from a world that is written down.
use Rattle.std.specs.Prelude.{◌≡◌, ℕ, List, [], ◌∷◌, ◌++◌, replicate, codes, None, Some, false, true}
use Rattle.sim_base.specs.declared.mode.Mode.{Mode}
use Rattle.tick_law.specs.declared.verdict.Verdict.{Verdict}
use Rattle.tick_law.specs.declared.verdict.Verdict.TheVariants.{Finished, Stuck, Cut}
use Rattle.mem_ctrl.specs.declared.waiting.Waiting.{Waiting}
use Rattle.mem_ctrl.specs.Memory.{MemoryState}
use Rattle.traffic_parts.specs.Agent.{AgentState}
use Rattle.direct_link.specs.Direct.{DirectState}
use Rattle.part_kind.specs.declared.part.Part.TheVariants.{Agent, Memory}
use Rattle.part_kind.specs.declared.link_kind.LinkKind.TheVariants.{Direct}
use Rattle.trace_out.specs.Names.{NamesView, names_view}
use Rattle.task_stats.specs.Tasks.{TasksView, no_tasks}
use Rattle.state_view.specs.Report.{report_of}
use Rattle.state_view.specs.declared.run_end.RunEnd.{RunEnd}
use Rattle.model_rows.specs.Messages.{port}
use Rattle.model_rows.specs.MemoryRows.{memory_with, waits_until, read}
use Rattle.model_rows.specs.TrafficRows.{agent_with}

-- an agent of so many requests, of which these were sent and answered, with its sum
abbrev pub agent_of : ℕ → ℕ → ℕ → ℕ → AgentState
agent_of count issued answered total = record (agent_with Mode.Read issued answered total 0 0) { count = count }

abbrev pub memory_of : List Waiting → ℕ → MemoryState
memory_of queue served = memory_with [] queue served

abbrev pub link_of : ℕ → ℕ → DirectState
link_of pointer moved = record { numbers = port 0 ∷ port 1 ∷ []; period = 1; pointer = pointer; moved = moved }

-- two parts of these names and a link `l`
abbrev pub names_of : List ℕ → List ℕ → NamesView
names_of first second = names_view (first ∷ second ∷ []) (codes "l" ∷ []) []

-- a run of this budget that ended so, at this time
abbrev pub ended : ℕ → Verdict → ℕ → RunEnd
ended budget verdict end = record { budget = record { 0 = budget }; verdict = verdict; end = record { 0 = end } }

-- tasks of which none waits
abbrev pub tasks_of : ℕ → ℕ → ℕ → ℕ → TasksView
tasks_of begun ended sum greatest = record { waiting = []; begun = begun; ended = ended; sum = sum; greatest = greatest }

pub record Printed : Type 0 where
  -- two agents that send to each other wait for ever
  pub stuck : report_of (names_of (codes "a") (codes "b")) (record { parts = Agent (agent_of 3 2 0 0) ∷ Agent (agent_of 3 2 0 0) ∷ []; links = Direct (link_of 1 2) ∷ []; ports = [] }) (ended 100 Stuck 1) None false
      ≡ codes "verdict stuck\nend 1\nbudget 100\npart a agent busy issued 2 answered 0 sum 0\npart b agent busy issued 2 answered 0 sum 0\nlink l direct moved 2 pointer 1\n"
  -- an agent whose requests are answered, and the memory that has answered them
  pub finished : report_of (names_of (codes "a") (codes "m")) (record { parts = Agent (agent_of 2 2 2 67305985) ∷ Memory (memory_of [] 2) ∷ []; links = Direct (link_of 0 4) ∷ []; ports = [] }) (ended 10000 Finished 6000) None false
      ≡ codes "verdict finished\nend 6000\nbudget 10000\npart a agent done issued 2 answered 2 sum 67305985\npart m memory done served 2\nlink l direct moved 4 pointer 0\n"
  -- a request waits in a memory when the budget is over
  pub cut : report_of (names_of (codes "a") (codes "m")) (record { parts = Agent (agent_of 2 2 1 7) ∷ Memory (memory_of (waits_until 13 read ∷ []) 1) ∷ []; links = Direct (link_of 1 3) ∷ []; ports = [] }) (ended 9 Cut 8) None false
      ≡ codes "verdict cut\nend 8\nbudget 9\npart a agent busy issued 2 answered 1 sum 7\npart m memory busy served 1\nlink l direct moved 3 pointer 1\n"
  -- an agent's tasks, and the bytes of a memory that are not all zero, behind the parts and links
  pub whole : report_of (names_of (codes "a") (codes "m")) (record { parts = Agent (agent_of 1 1 1 0) ∷ Memory (memory_with (replicate 20 0 ++ 108 ∷ 89 ∷ 136 ∷ 60 ∷ replicate 8 0) [] 1) ∷ []; links = Direct (link_of 0 2) ∷ []; ports = [] }) (ended 10000 Finished 3000) (Some (tasks_of 1 1 3000 3000 ∷ no_tasks ∷ [])) true
      ≡ codes "verdict finished\nend 3000\nbudget 10000\npart a agent done issued 1 answered 1 sum 0\npart m memory done served 1\nlink l direct moved 2 pointer 0\ntask a begun 1 ended 1 sum 3000 greatest 3000\nmem m 00000110 000000006c59883c0000000000000000\n"
