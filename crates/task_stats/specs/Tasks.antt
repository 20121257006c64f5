-- What the records of a run say of the requests that each part sent.
use Rattle.std.specs.Prelude.{ℕ, ◌+◌, ◌-◌, ◌^◌, ◌==◌, ◌&&◌, Bool, true, false, List, [], ◌∷◌, ◌++◌, length, nat_lt, min, max, Option, None, Some, option_map, unwrap_or, slice_get, slice_set, if◌then◌else◌}
use Rattle.std.specs.List.{position, remove}
use Rattle.port_msg.specs.declared.message.Msg.{Msg}
use Rattle.port_msg.specs.declared.message.MsgId.{MsgId}
use Rattle.port_msg.specs.declared.message.MsgKind.{MsgKind}
use Rattle.port_msg.specs.declared.message.MsgKind.TheVariants.{Read, Write, ReadRsp, WriteRsp, Flush, FlushRsp, Token}
use Rattle.port_msg.specs.declared.records.Record.{Record}
use Rattle.port_msg.specs.declared.records.What.{What}
use Rattle.port_msg.specs.declared.records.What.TheVariants.{Send, Take, Move, Out, Halt}
use Rattle.task_stats.specs.declared.stats.TaskCount.{TaskCount}
use Rattle.task_stats.specs.declared.tasks.OpenTask.{OpenTask}

-- the requests of a part: those that wait for their answer, in the order in which they were sent, how many began and how many ended, and the sum and the greatest of the latencies of those that ended, in picoseconds
pub record TasksView : Type 0 where
  pub waiting : List OpenTask
  pub begun : ℕ
  pub ended : ℕ
  pub sum : ℕ
  pub greatest : ℕ

abbrev pub no_tasks : TasksView
no_tasks = record { waiting = []; begun = 0; ended = 0; sum = 0; greatest = 0 }

-- a message whose sending begins a task: it asks for an answer
abbrev pub begins_task : MsgKind → Bool
begins_task Read = true
begins_task Write = true
begins_task Flush = true
begins_task ReadRsp = false
begins_task WriteRsp = false
begins_task FlushRsp = false
begins_task Token = false

-- a message whose taking ends one: it answers
abbrev pub ends_task : MsgKind → Bool
ends_task ReadRsp = true
ends_task WriteRsp = true
ends_task FlushRsp = true
ends_task Read = false
ends_task Write = false
ends_task Flush = false
ends_task Token = false

-- one more, up to the greatest number of 64 bits
abbrev pub one_more : ℕ → ℕ
one_more n = min (n + 1) (2 ^ 64 - 1)

-- a request begins a task where fewer than 64 of the part's tasks are open
abbrev pub sent_at : ℕ → Msg → TasksView → TasksView
sent_at t msg tasks = if begins_task msg.kind && nat_lt (length tasks.waiting) 64 then record tasks { waiting = tasks.waiting ++ record { id = msg.id; at = record { 0 = t } } ∷ []; begun = one_more tasks.begun } else tasks

-- a task of this id
abbrev pub has_id : MsgId → OpenTask → Bool
has_id id task = task.id.part.0 == id.part.0 && task.id.seq == id.seq

-- the open task of a place ends with this latency
abbrev pub ended_with : ℕ → ℕ → TasksView → TasksView
ended_with k latency tasks = record tasks { waiting = remove tasks.waiting k; ended = one_more tasks.ended; sum = min (tasks.sum + latency) (2 ^ 128 - 1); greatest = max tasks.greatest latency }

-- when the open task of a place was sent
abbrev pub sent_time : List OpenTask → ℕ → ℕ
sent_time waiting k = unwrap_or (option_map (λ (task : OpenTask). task.at.0) (slice_get waiting k)) 0

-- the open task of a place, if any, ends at a time: its latency is the time since it was sent, 0 where it was sent later
abbrev pub ended_at : ℕ → Option ℕ → TasksView → TasksView
ended_at t None tasks = tasks
ended_at t (Some k) tasks = ended_with k (t - sent_time tasks.waiting k) tasks

-- an answer ends the earliest open task of its id
abbrev pub taken_at : ℕ → Msg → TasksView → TasksView
taken_at t msg tasks = if ends_task msg.kind then ended_at t (position (has_id msg.id) tasks.waiting) tasks else tasks

-- what a part did at a time
abbrev pub after_what : ℕ → What → TasksView → TasksView
after_what t (Send msg) tasks = sent_at t msg tasks
after_what t (Take msg) tasks = taken_at t msg tasks
after_what t (Move msg) tasks = tasks
after_what t (Out byte) tasks = tasks
after_what t (Halt cause) tasks = tasks

-- the requests of a part
abbrev pub tasks_at : List TasksView → ℕ → TasksView
tasks_at all i = unwrap_or (slice_get all i) no_tasks

-- a record concerns the part that it names; those of links concern none
abbrev pub after_record : List TasksView → Record → List TasksView
after_record all r = slice_set all r.actor.0 (after_what r.at.0 r.what (tasks_at all r.actor.0))

-- all records, in order
abbrev pub after_records : List TasksView → List Record → List TasksView
after_records all [] = all
after_records all (r ∷ rest) = after_records (after_record all r) rest

-- what is told of the requests of a part
abbrev pub count_of : TasksView → TaskCount
count_of tasks = record { begun = tasks.begun; ended = tasks.ended; sum = tasks.sum; greatest = tasks.greatest }
