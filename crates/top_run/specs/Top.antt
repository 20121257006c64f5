-- What a run of the program leaves.
use Rattle.std.specs.Prelude.{◌≡◌, ℕ, ◌+◌, ◌≤◌, List, [], ◌++◌, length, replicate, codes, Bool, true, false, Option, Some, None, ◌⊎◌, Ok, Err}
use Rattle.std.specs.Fmt.{decimal}
use Rattle.tick_law.specs.PlanView.{PlanView, system_of}
use Rattle.tick_law.specs.SerialLoop.{System, WorldState, world_at, records_below, edges_below}
use Rattle.tick_law.specs.Verdict.{verdict_at, end_at, awake_below}
use Rattle.tick_law.specs.declared.verdict.Verdict.{Verdict}
use Rattle.tick_law.specs.declared.verdict.Verdict.TheVariants.{Finished, Stuck, Cut}
use Rattle.part_kind.specs.Part.{part}
use Rattle.part_kind.specs.LinkKind.{link}
use Rattle.part_kind.specs.declared.part.Part.{Part}
use Rattle.part_kind.specs.declared.link_kind.LinkKind.{LinkKind}
use Rattle.sim_io.specs.Sink.{Rose, Got, GotPrefix}
use Rattle.state_view.specs.Report.{report_of}
use Rattle.state_view.specs.declared.run_end.RunEnd.{RunEnd}
use Rattle.trace_out.specs.Lines.{lines_of}
use Rattle.task_stats.specs.Tasks.{TasksView, no_tasks}
use Rattle.run_gear.specs.Counted.{counted_with}
use Rattle.run_gear.specs.PlanNames.{names_of}
use Rattle.run_gear.specs.Written.{GotSomeLines}
use Rattle.run_gear.specs.declared.fault.RunFault.{RunFault}
use Rattle.run_gear.specs.declared.fault.RunFault.TheVariants as faults
use Rattle.top_run.specs.declared.command.Options.{Options}
use Rattle.top_run.specs.declared.command.Command.{Command}
use Rattle.top_run.specs.declared.run.Engine.{Engine}
use Rattle.top_run.specs.declared.run.Engine.TheVariants.{Sleeping, Serial}
use Rattle.top_run.specs.declared.refusal.Refusal.{Refusal}
use Rattle.top_run.specs.declared.refusal.Refusal.TheVariants as refusals
use Rattle.top_run.specs.Words.{Accepts, RefusedAt}
use Rattle.top_run.specs.Summary.{summary_of}
use Rattle.plan_show.specs.declared.question.Unknown.{Unknown}
use Rattle.world_query.specs.declared.query.Query.{Query}
use Rattle.world_query.specs.Legend.{legend_of}
use Rattle.part_view.specs.Bodies.{body_of}
use Rattle.top_run.specs.declared.machine.Machine.{Machine}
use Rattle.top_run.specs.declared.job.Job.{Job}
use Rattle.top_run.specs.declared.job.Work.{Work}
use Rattle.top_run.specs.declared.job.Work.TheVariants as works
use Rattle.top_run.specs.Job.{Rule, Config, Program, Plan, Name, AreOwn, IsNameOf, Means}
use Rattle.top_run.specs.Refusals.{line_feed, usage_line, name_place, config_line, program_line, plan_line}

-- the serial loop's run of a plan, which ticks every actor at every edge up to the budget
abbrev pub loop_of : PlanView Part LinkKind → System Part LinkKind
loop_of plan = system_of part link plan

-- its verdict
abbrev pub plan_verdict : PlanView Part LinkKind → Verdict
plan_verdict plan = verdict_at (loop_of plan) plan.until

-- how it ends: its budget, its verdict and its ending time
abbrev pub plan_end : PlanView Part LinkKind → RunEnd
plan_end plan = record { budget = record { 0 = plan.until }; verdict = plan_verdict plan; end = record { 0 = end_at (loop_of plan) plan.until } }

-- what is counted of the requests of so many parts before a run, where they are counted
abbrev pub no_counts : Bool → ℕ → Option (List TasksView)
no_counts true parts = Some (replicate parts no_tasks)
no_counts false parts = None

-- what the records of that run tell of the requests of its parts, where the options ask for it
abbrev pub plan_counts : Options → PlanView Part LinkKind → Option (List TasksView)
plan_counts options plan = counted_with (no_counts options.stats (length plan.parts)) (records_below (loop_of plan) (plan.until + 1))

-- the report of that run: of its world behind the last time, and of its end; with what its records tell of requests, and with the
-- registers of the cores and the bytes of the memories, where the options ask for them
abbrev pub plan_report : Options → PlanView Part LinkKind → List ℕ
plan_report options plan = report_of (names_of plan) (world_at (loop_of plan) (plan.until + 1)) (plan_end plan) (plan_counts options plan) options.dump

-- the lines of the records of that run below a boundary: those of all, or those of bytes that cores wrote
abbrev pub plan_lines : Bool → PlanView Part LinkKind → ℕ → List ℕ
plan_lines all plan d = lines_of (names_of plan) all (records_below (loop_of plan) d)

-- the steps that an engine is charged for below a boundary: one for each pair of an actor and an edge of it at which it is awake,
-- or one for each edge
abbrev pub plan_steps : Engine → PlanView Part LinkKind → ℕ → ℕ
plan_steps Sleeping plan d = awake_below (loop_of plan) d
plan_steps Serial plan d = edges_below (loop_of plan) d

-- `ok parts A links B ports C programs D until T`
abbrev pub check_numbers : ℕ → ℕ → ℕ → ℕ → ℕ → List ℕ
check_numbers parts links ports programs until = codes "ok parts " ++ decimal parts ++ codes " links " ++ decimal links ++ codes " ports " ++ decimal ports ++ codes " programs " ++ decimal programs ++ codes " until " ++ decimal until ++ codes "\n"

abbrev pub check_line : Machine → List ℕ
check_line machine = check_numbers (length machine.plan.parts) (length machine.plan.links) (length machine.plan.ports) machine.programs machine.plan.until

-- the answer to a query about the world of the serial loop's run behind the last time, and a line feed
abbrev pub shown_line : Query → PlanView Part LinkKind → List ℕ
shown_line query plan = body_of (legend_of plan) query (world_at (loop_of plan) (plan.until + 1)) (plan.until + 1) ++ line_feed

-- the summary of a storm of so many agents: of the world of the serial loop's run behind the last time, and of its end
abbrev pub storm_summary : ℕ → PlanView Part LinkKind → List ℕ
storm_summary agents plan = (λ (w : WorldState Part LinkKind). summary_of agents (plan_end plan) w.parts w.links) (world_at (loop_of plan) (plan.until + 1))

-- the status of a verdict
abbrev pub status_of : Verdict → ℕ
status_of Finished = 0
status_of Stuck = 10
status_of Cut = 11

-- the status of what is done with a plan: that of its run's verdict, where its report or its summary is asked for
abbrev pub status_by : Work → PlanView Part LinkKind → ℕ
status_by (works.Run engine options) plan = status_of (plan_verdict plan)
status_by works.Check plan = 0
status_by (works.Show query) plan = 0
status_by (works.Storm agents) plan = status_of (plan_verdict plan)

-- the lines of its run below a boundary, where they are asked for
abbrev pub lines_by : Work → PlanView Part LinkKind → ℕ → List ℕ
lines_by (works.Run engine options) plan d = plan_lines options.trace plan d
lines_by works.Check plan d = []
lines_by (works.Show query) plan d = []
lines_by (works.Storm agents) plan d = []

-- what is written behind them: the report, the line of a check, the answer to a query, or the summary of a storm
abbrev pub report_by : Work → Machine → List ℕ
report_by (works.Run engine options) machine = plan_report options machine.plan
report_by works.Check machine = check_line machine
report_by (works.Show query) machine = shown_line query machine.plan
report_by (works.Storm agents) machine = storm_summary agents machine.plan

-- the steps that are charged
abbrev pub steps_by : Work → PlanView Part LinkKind → ℕ
steps_by (works.Run engine options) plan = plan_steps engine plan (plan.until + 1)
steps_by works.Check plan = 0
steps_by (works.Show query) plan = plan_steps Sleeping plan (plan.until + 1)
steps_by (works.Storm agents) plan = plan_steps Sleeping plan (plan.until + 1)

-- the status of a job
abbrev pub job_status : Job → ℕ
job_status job = status_by job.work job.machine.plan

-- all its lines
abbrev pub all_lines : Job → List ℕ
all_lines job = lines_by job.work job.machine.plan (job.machine.plan.until + 1)

-- what it writes behind them
abbrev pub job_report : Job → List ℕ
job_report job = report_by job.work job.machine

-- all that it writes
abbrev pub job_written : Job → List ℕ
job_written job = all_lines job ++ job_report job

-- the steps that it is charged for
abbrev pub job_steps : Job → ℕ
job_steps job = steps_by job.work job.machine.plan

-- the words are a command, and its file means a job
pub record IsJob (contents : List ℕ → Option (List ℕ)) (words : List (List ℕ)) (command : Command) (job : Job) : Type 0 where
  pub accepts : Accepts words command
  pub means : Means contents command (Ok job)

-- the status of a run that ended with a verdict, or of a check
abbrev pub IsVerdict : ℕ → Type 0
IsVerdict status = (status ≡ 0) ⊎ ((status ≡ 10) ⊎ (status ≡ 11))

-- a run that ended with this status: it wrote all that its job writes, and was charged for its steps
pub record HasRun (contents : List ℕ → Option (List ℕ)) (words : List (List ℕ)) (status : ℕ) (old new : Option (List ℕ)) (before after : ℕ) : Type 0 where
  pub command : Command
  pub job : Job
  pub is_job : IsJob contents words command job
  pub status_is : status ≡ job_status job
  pub written : Got old new (job_written job)
  pub steps : after ≡ before + job_steps job

-- a write of a line of the last time below boundary d failed: the object got the lines of all earlier times, and then a prefix of
-- those of that time, which has one
abbrev pub PlanFailed : Bool → PlanView Part LinkKind → Option (List ℕ) → Option (List ℕ) → ℕ → Type 0
PlanFailed all plan old new d = (d ≤ plan.until + 1) × GotSomeLines plan (loop_of plan) all d old new

-- the same of what is done with a plan; a check, an answer and a storm have no lines
abbrev pub FailedBy : Work → PlanView Part LinkKind → Option (List ℕ) → Option (List ℕ) → ℕ → Type 0
FailedBy (works.Run engine options) plan old new d = PlanFailed options.trace plan old new d
FailedBy works.Check plan old new d = ⊥
FailedBy (works.Show query) plan old new d = ⊥
FailedBy (works.Storm agents) plan old new d = ⊥

-- and of a job
abbrev pub FailedAt : Job → Option (List ℕ) → Option (List ℕ) → ℕ → Type 0
FailedAt job old new d = FailedBy job.work job.machine.plan old new d

-- the write of what stands behind some lines failed: the object got the lines, and a prefix of it
abbrev pub Broke : List ℕ → List ℕ → Option (List ℕ) → Option (List ℕ) → Type 0
Broke lines report old new = (held : Option (List ℕ)) × Got old held lines × GotPrefix held new report

-- the write of the report failed: the object got all lines of the run, and a prefix of its report
abbrev pub FailedBehind : Job → Option (List ℕ) → Option (List ℕ) → Type 0
FailedBehind job old new = Broke (all_lines job) (job_report job) old new

-- the words are some command, its file means a job, and this is true of both
abbrev pub SomeJob : (List ℕ → Option (List ℕ)) → List (List ℕ) → (Command → Job → Type 0) → Type 0
SomeJob contents words fact = (command : Command) × (job : Job) × IsJob contents words command job × fact command job

-- the reading of this file failed, which is one of the command's: the count of faults of its name rose
abbrev pub ReadFailed : (List ℕ → Option (List ℕ)) → (List ℕ → ℕ) → (List ℕ → ℕ) → Command → List ℕ → Type 0
ReadFailed contents before after command name = IsNameOf (AreOwn contents) command name × Rose (before name) (after name)

-- that of some file of the command
abbrev pub SomeReadFailed : (List ℕ → Option (List ℕ)) → (List ℕ → ℕ) → (List ℕ → ℕ) → Command → Type 0
SomeReadFailed contents before after command = (name : List ℕ) × ReadFailed contents before after command name

-- the line of a broken rule
abbrev pub rule_line : Rule → List ℕ
rule_line (Config fault) = config_line fault
rule_line (Program breach) = program_line breach
rule_line (Plan breach) = plan_line breach
rule_line (Name unknown) = usage_line (name_place unknown)

-- and the status
abbrev pub rule_status : Rule → ℕ
rule_status (Config fault) = 3
rule_status (Program breach) = 4
rule_status (Plan breach) = 3
rule_status (Name unknown) = 2

-- what a refusal of a run of a plan says: a line was not written at a boundary, or no memory was found
abbrev pub IsFaultOfRun : (ℕ → Type 0) → Type 0 → Refusal → Type 0
IsFaultOfRun at memory (refusals.WriteAt d) = at d.0
IsFaultOfRun at memory refusals.OutOfMemory = memory
IsFaultOfRun at memory refusal = ⊥

-- the same of a job, whose report may not be written either
abbrev pub IsFaultOfJob : Type 0 → (ℕ → Type 0) → Type 0 → Refusal → Type 0
IsFaultOfJob behind at memory refusals.Write = behind
IsFaultOfJob behind at memory (refusals.WriteAt d) = at d.0
IsFaultOfJob behind at memory refusals.OutOfMemory = memory
IsFaultOfJob behind at memory refusal = ⊥

-- the same of a reading of a file, which may fail, and whose file may break a rule
abbrev pub IsFaultOfFile : (List ℕ → Type 0) → (Rule → Type 0) → Refusal → Type 0
IsFaultOfFile read rule (refusals.Read file) = read file
IsFaultOfFile read rule (refusals.Config fault) = rule (Config fault)
IsFaultOfFile read rule (refusals.Program breach) = rule (Program breach)
IsFaultOfFile read rule (refusals.Plan breach) = rule (Plan breach)
IsFaultOfFile read rule (refusals.Name unknown) = rule (Name unknown)
IsFaultOfFile read rule refusals.OutOfMemory = Unit {0}
IsFaultOfFile read rule refusal = ⊥

-- the words are some command of which this is true
abbrev pub SomeFile : List (List ℕ) → (Command → Type 0) → Type 0
SomeFile words fact = (command : Command) × Accepts words command × fact command

-- word k is the name of no part, or of no field of the part, of the machine of some command
abbrev pub IsUnknownAt : (List ℕ → Option (List ℕ)) → List (List ℕ) → ℕ → Type 0
IsUnknownAt contents words k = (unknown : Unknown) × (k ≡ name_place unknown) × SomeFile words (λ command. Means contents command (Err (Name unknown)))

-- word k is refused: no accepted list of words has the same first k words, or it is an unknown name
abbrev pub IsRefusedWord : (List ℕ → Option (List ℕ)) → List (List ℕ) → ℕ → Type 0
IsRefusedWord contents words k = RefusedAt words k ⊎ IsUnknownAt contents words k

-- the statuses of broken rules of files
abbrev pub IsBroken : ℕ → Type 0
IsBroken status = (status ≡ 3) ⊎ (status ≡ 4)

-- the statuses of refusals: of words, of rules of files and of readings
abbrev pub IsRefusal : ℕ → Type 0
IsRefusal status = (status ≡ 2) ⊎ (IsBroken status ⊎ (status ≡ 5))

-- all statuses
abbrev pub IsStatus : ℕ → Type 0
IsStatus status = IsVerdict status ⊎ (IsRefusal status ⊎ ((status ≡ 6) ⊎ (status ≡ 8)))

-- why a run of words ends in a refusal, for the contents of files and the counts of faults of files and of an object, before and
-- after
abbrev pub IsCause : (List ℕ → Option (List ℕ)) → (List ℕ → ℕ) → (List ℕ → ℕ) → List (List ℕ) → ℕ → ℕ → Option (List ℕ) → Option (List ℕ) → Refusal → Type 0
IsCause contents first last words before after old new (refusals.Usage k) = RefusedAt words k
IsCause contents first last words before after old new (refusals.Read file) = SomeFile words (λ command. ReadFailed contents first last command file)
IsCause contents first last words before after old new (refusals.Config fault) = SomeFile words (λ command. Means contents command (Err (Config fault)))
IsCause contents first last words before after old new (refusals.Program breach) = SomeFile words (λ command. Means contents command (Err (Program breach)))
IsCause contents first last words before after old new (refusals.Plan breach) = SomeFile words (λ command. Means contents command (Err (Plan breach)))
IsCause contents first last words before after old new (refusals.Name unknown) = SomeFile words (λ command. Means contents command (Err (Name unknown)))
IsCause contents first last words before after old new refusals.Write = Rose before after × SomeJob contents words (λ command job. FailedBehind job old new)
IsCause contents first last words before after old new (refusals.WriteAt d) = Rose before after × SomeJob contents words (λ command job. FailedAt job old new d.0)
IsCause contents first last words before after old new refusals.OutOfMemory = Unit {0}

-- nothing is written where words, a reading or a rule are refused
abbrev pub IsUnwritten : Type 0 → Refusal → Type 0
IsUnwritten same (refusals.Usage k) = same
IsUnwritten same (refusals.Read file) = same
IsUnwritten same (refusals.Config fault) = same
IsUnwritten same (refusals.Program breach) = same
IsUnwritten same (refusals.Plan breach) = same
IsUnwritten same (refusals.Name unknown) = same
IsUnwritten same refusal = Unit {0}

-- and no part of a report is written where no memory was found
abbrev pub IsUnreported : Type 0 → Refusal → Type 0
IsUnreported lines refusals.OutOfMemory = lines
IsUnreported lines refusal = Unit {0}

-- what a fault of an engine says
abbrev pub IsFaultOfEngine : (ℕ → Type 0) → Type 0 → RunFault → Type 0
IsFaultOfEngine at memory (faults.Trace fault) = at fault.upto.0
IsFaultOfEngine at memory faults.OutOfMemory = memory

-- the refusal that it is
abbrev pub refusal_of : RunFault → Refusal
refusal_of (faults.Trace fault) = refusals.WriteAt fault.upto
refusal_of faults.OutOfMemory = refusals.OutOfMemory
