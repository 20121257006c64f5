-- What a command and its files mean: a machine and what is done with it, or the first rule that a file breaks.
use Rattle.std.specs.Prelude.{◌≡◌, ℕ, ◌≤◌, ◌⊎◌, List, [], ◌∷◌, length, slice_get, Option, Some, None, IfSome, option_map, Result, Ok, Err}
use Rattle.sim_base.specs.declared.time.Time.{Time}
use Rattle.sim_config.specs.Tables.{PlanTables, ProgramTable}
use Rattle.sim_config.specs.Meaning.{config_of}
use Rattle.sim_config.specs.declared.fault.ConfigFault.{ConfigFault}
use Rattle.elf_load.specs.declared.image.Image.{Image}
use Rattle.elf_load.specs.declared.rule.ElfRule.{ElfRule}
use Rattle.elf_load.specs.Fields.{elf_header}
use Rattle.elf_load.specs.Image.{segments_of}
use Rattle.elf_load.specs.Rules as format
use Rattle.plan_rules.specs.declared.breach.Breach.{Breach}
use Rattle.plan_rules.specs.First.{first_broken}
use Rattle.plan_check.specs.Programs.{first_unmapped}
use Rattle.plan_check.specs.Plan.{plan_of}
use Rattle.ring_plan.specs.Ring.{ring_plan}
use Rattle.storm_gen.specs.Storm.{storm_plan}
use Rattle.top_run.specs.declared.program_breach.ProgramBreach.{ProgramBreach}
use Rattle.top_run.specs.declared.program_breach.ProgramRule.TheVariants.{Format, SegmentUnmapped}
use Rattle.top_run.specs.declared.refusal.Refusal.{Refusal}
use Rattle.top_run.specs.declared.refusal.Refusal.TheVariants as refusals
use Rattle.top_run.specs.Words.{latest, InRange, IsFew, no_options}
use Rattle.world_query.specs.declared.query.Query.{Query}
use Rattle.plan_show.specs.declared.question.Question.{Question}
use Rattle.plan_show.specs.declared.question.Unknown.{Unknown}
use Rattle.plan_show.specs.Question.{query_in}
use Rattle.world_query.specs.Legend.{legend_of, IsQueryOf}
use Rattle.top_run.specs.declared.machine.Machine.{Machine}
use Rattle.top_run.specs.declared.job.Job.{Job}
use Rattle.top_run.specs.declared.job.Work.{Work}
use Rattle.top_run.specs.declared.job.Work.TheVariants as works
use Rattle.top_run.specs.declared.run.Engine.{Engine}
use Rattle.top_run.specs.declared.run.Engine.TheVariants.{Sleeping, Serial}
use Rattle.top_run.specs.declared.command.Options.{Options}
use Rattle.top_run.specs.declared.command.Command.{Command}
use Rattle.top_run.specs.declared.command.Command.TheVariants as commands

-- a rule of configurations, of programs or of plans that a file breaks, with its place; or a name of the words that is that of no
-- part, or of no field of the part, of the file's machine
pub data Rule : Type 0 where
  Config : ConfigFault → Rule
  Program : ProgramBreach → Rule
  Plan : Breach → Rule
  Name : Unknown → Rule

-- the bytes are those of the file of a name, where the files tell them
abbrev pub AreOwn : (List ℕ → Option (List ℕ)) → List ℕ → List ℕ → Type 0
AreOwn contents name bytes = IfSome (contents name) (λ own. bytes ≡ own)

-- the files tell that these are the bytes of the file of a name
abbrev pub AreTold : (List ℕ → Option (List ℕ)) → List ℕ → List ℕ → Type 0
AreTold contents name bytes = contents name ≡ Some bytes

-- a file gave some bytes, which are its own where they are told
abbrev pub Gave : Option (List ℕ) → (List ℕ → Type 0) → Type 0
Gave told fact = (bytes : List ℕ) × IfSome told (λ own. bytes ≡ own) × fact bytes

-- the program that a file of these bytes holds, which breaks no rule of the format
pub record IsImageOf (bytes : List ℕ) (image : Image) : Type 0 where
  pub sound : format.first_broken bytes ≡ None
  pub entry : image.entry ≡ (elf_header bytes).e_entry
  pub file : image.file ≡ bytes
  pub segments : image.segments ≡ segments_of bytes

-- a rule of the format that a file of these bytes breaks first, and where
abbrev pub IsFirstBroken : List ℕ → ProgramBreach → Type 0
IsFirstBroken bytes breach = (rule : ElfRule) × (breach.rule ≡ Format rule) × (format.first_broken bytes ≡ Some (rule, breach.at))

-- the file with this greatest time in place of its own
abbrev pub with_budget : Option Time → PlanTables → PlanTables
with_budget None text = text
with_budget (Some t) text = record { until = t; maps = text.maps; parts = text.parts; links = text.links; programs = text.programs }

-- the machine of a text with its programs, or the first segment that has a byte without a port: its program and the place of its
-- address
abbrev pub machine_unmapped : Option (ℕ × ℕ) → List Image → PlanTables → Result Machine Rule
machine_unmapped None images text = Ok (record { plan = plan_of text images; programs = length text.programs })
machine_unmapped (Some place) images text = Err (Program (record { program = place.0; rule = SegmentUnmapped; at = place.1 }))

-- the machine of a text with its programs, or the rule of plans that it breaks first
abbrev pub machine_unless : Option Breach → List Image → PlanTables → Result Machine Rule
machine_unless None images text = machine_unmapped (option_map (λ place. (place.program, place.at)) (first_unmapped text images)) images text
machine_unless (Some breach) images text = Err (Plan breach)

-- the machine of a text with its programs, whose budget is the one that runs
abbrev pub machine_of_plan : List Image → PlanTables → Result Machine Rule
machine_of_plan images text = machine_unless (first_broken text) images text

-- the machine of a text with the programs that were loaded for it, or the rule that one of them breaks
abbrev pub machine_of_programs : Result (List Image) ProgramBreach → Option Time → PlanTables → Result Machine Rule
machine_of_programs (Ok images) until text = machine_of_plan images (with_budget until text)
machine_of_programs (Err breach) until text = Err (Program breach)

-- what is done with a machine: it is run by an engine with options
abbrev pub run_with : Engine → Options → Machine → Result Job Rule
run_with engine options machine = Ok (record { machine = machine; work = works.Run engine options })

-- or a line tells of it
abbrev pub checked : Machine → Result Job Rule
checked machine = Ok (record { machine = machine; work = works.Check })

-- or a question about it is answered, where it has the names of the question
abbrev pub answered : Result Query Unknown → Machine → Result Job Rule
answered (Ok query) machine = Ok (record { machine = machine; work = works.Show query })
answered (Err unknown) machine = Err (Name unknown)

abbrev pub shown : Question → Machine → Result Job Rule
shown question machine = answered (query_in machine.plan question) machine

-- or it is run, and a summary tells of the storm of so many agents that it is
abbrev pub stormed : ℕ → Machine → Result Job Rule
stormed agents machine = Ok (record { machine = machine; work = works.Storm agents })

-- and this is done where there is a machine
abbrev pub done_with : (Machine → Result Job Rule) → Result Machine Rule → Result Job Rule
done_with work (Ok machine) = work machine
done_with work (Err rule) = Err rule

-- what a storm means: the machine of its plan, as the same text in a file would mean it, and that a summary tells of it
abbrev pub storm_meaning : ℕ → Result Job Rule
storm_meaning agents = done_with (stormed agents) (machine_of_plan [] (storm_plan agents))

-- a query is one about the machine
abbrev pub IsWorkOf : Machine → Work → Type 0
IsWorkOf machine (works.Run engine options) = Unit {0}
IsWorkOf machine works.Check = Unit {0}
IsWorkOf machine (works.Show query) = IsQueryOf (legend_of machine.plan) query
IsWorkOf machine (works.Storm agents) = Unit {0}

-- the budget that a command gives in place of its file's is one that a file may have, and the numbers of a ring and a storm are in
-- their ranges
abbrev pub IsWithin : Command → Type 0
IsWithin (commands.Ring ring) = InRange ring
IsWithin (commands.Check file) = Unit {0}
IsWithin (commands.Run file options) = IfSome options.until (λ t. t.0 ≤ latest)
IsWithin (commands.Slow file options) = IfSome options.until (λ t. t.0 ≤ latest)
IsWithin (commands.Show file at question) = at.0 ≤ latest
IsWithin (commands.Storm agents) = IsFew agents

-- what files mean that give bytes by their names
module _ (gives : List ℕ → List ℕ → Type 0) where
  -- a file gives this program
  abbrev pub IsProgramIn : List ℕ → Image → Type 0
  IsProgramIn file image = (bytes : List ℕ) × gives file bytes × IsImageOf bytes image

  -- these are the programs of the first of these tables, in their order
  abbrev pub AreLoaded : List ProgramTable → List Image → Type 0
  AreLoaded tables [] = Unit {0}
  AreLoaded [] (image ∷ images) = ⊥
  AreLoaded (table ∷ tables) (image ∷ images) = IsProgramIn table.file image × AreLoaded tables images

  -- a file breaks a rule of the format first
  abbrev pub BreaksFormat : List ℕ → ProgramBreach → Type 0
  BreaksFormat file breach = (bytes : List ℕ) × gives file bytes × IsFirstBroken bytes breach

  -- the next program that is read behind some that were loaded
  pub record IsNext (tables : List ProgramTable) (before : List Image) (table : ProgramTable) : Type 0 where
    pub loaded : AreLoaded tables before
    pub here : slice_get tables (length before) ≡ Some table

  -- the programs of these tables are read in their order, up to the first whose file breaks a rule of the format
  abbrev pub AreRead : List ProgramTable → Result (List Image) ProgramBreach → Type 0
  AreRead tables (Ok images) = AreLoaded tables images × (length images ≡ length tables)
  AreRead tables (Err breach) = (before : List Image) × (table : ProgramTable) × IsNext tables before table × (breach.program ≡ length before) × BreaksFormat table.file breach

  -- the machine of a text, or the first rule that is broken; its file may break a rule of configurations
  abbrev pub MeansText : Option Time → Result PlanTables ConfigFault → Result Machine Rule → Type 0
  MeansText until (Ok text) meaning = (read : Result (List Image) ProgramBreach) × AreRead text.programs read × (machine_of_programs read until text ≡ meaning)
  MeansText until (Err fault) meaning = Err (Config fault) ≡ meaning

  -- the machine of a file: its rules of configurations come first, then the programs that it names, then the rules of plans
  abbrev pub MeansFile : Option Time → List ℕ → Result Machine Rule → Type 0
  MeansFile until file meaning = (bytes : List ℕ) × gives file bytes × MeansText until (config_of bytes) meaning

  -- what a file means with whose machine something is done
  abbrev pub MeansJob : (Machine → Result Job Rule) → Option Time → List ℕ → Result Job Rule → Type 0
  MeansJob work until file meaning = (made : Result Machine Rule) × MeansFile until file made × (done_with work made ≡ meaning)

  -- what a command means; a ring and a storm have no file, and the time of `show` is the budget
  abbrev pub MeansCommand : Command → Result Job Rule → Type 0
  MeansCommand (commands.Ring ring) meaning = run_with Sleeping no_options (record { plan = ring_plan ring.relays ring.until.0; programs = 0 }) ≡ meaning
  MeansCommand (commands.Check file) meaning = MeansJob checked None file meaning
  MeansCommand (commands.Run file options) meaning = MeansJob (run_with Sleeping options) options.until file meaning
  MeansCommand (commands.Slow file options) meaning = MeansJob (run_with Serial options) options.until file meaning
  MeansCommand (commands.Show file at question) meaning = MeansJob (shown question) (Some at) file meaning
  MeansCommand (commands.Storm agents) meaning = storm_meaning agents ≡ meaning

  -- the name of a program's file that is read
  abbrev pub IsProgramName : List ProgramTable → List ℕ → Type 0
  IsProgramName tables name = (before : List Image) × (table : ProgramTable) × IsNext tables before table × (name ≡ table.file)

  -- the same for a text, whose programs are read where its file breaks no rule of configurations
  abbrev pub IsNameOfText : Result PlanTables ConfigFault → List ℕ → Type 0
  IsNameOfText (Ok text) name = IsProgramName text.programs name
  IsNameOfText (Err fault) name = ⊥

  -- a name of a file that is read for a file: its own, or that of a program
  abbrev pub IsNameOfFile : List ℕ → List ℕ → Type 0
  IsNameOfFile file name = (name ≡ file) ⊎ ((bytes : List ℕ) × gives file bytes × IsNameOfText (config_of bytes) name)

  -- a name of a file that is read for a command
  abbrev pub IsNameOf : Command → List ℕ → Type 0
  IsNameOf (commands.Ring ring) name = ⊥
  IsNameOf (commands.Check file) name = IsNameOfFile file name
  IsNameOf (commands.Run file options) name = IsNameOfFile file name
  IsNameOf (commands.Slow file options) name = IsNameOfFile file name
  IsNameOf (commands.Show file at question) name = IsNameOfFile file name
  IsNameOf (commands.Storm agents) name = ⊥

-- it means this for the bytes that were read, which are those of the files where the files tell them
abbrev pub Means : (List ℕ → Option (List ℕ)) → Command → Result Job Rule → Type 0
Means contents command meaning = MeansCommand (AreOwn contents) command meaning

-- it means this, as the files tell
abbrev pub IsTold : (List ℕ → Option (List ℕ)) → Command → Result Job Rule → Type 0
IsTold contents command meaning = MeansCommand (AreTold contents) command meaning

-- a command that has no file
abbrev pub IsFileless : Command → Type 0
IsFileless (commands.Ring ring) = Unit {0}
IsFileless (commands.Storm agents) = Unit {0}
IsFileless command = ⊥

-- what a refusal says where the bytes of a file are read: a rule of configurations is broken, or no memory was found
abbrev pub IsFaultOfText : (ConfigFault → Type 0) → Refusal → Type 0
IsFaultOfText rule (refusals.Config fault) = rule fault
IsFaultOfText rule refusals.OutOfMemory = Unit {0}
IsFaultOfText rule refusal = ⊥

-- where the file is read: its reading may fail too
abbrev pub IsFaultOfReading : (List ℕ → Type 0) → (ConfigFault → Type 0) → Refusal → Type 0
IsFaultOfReading read rule (refusals.Read file) = read file
IsFaultOfReading read rule (refusals.Config fault) = rule fault
IsFaultOfReading read rule refusals.OutOfMemory = Unit {0}
IsFaultOfReading read rule refusal = ⊥

-- where programs are read: a reading fails, a program breaks a rule, or no memory was found
abbrev pub IsFaultOfProgram : (List ℕ → Type 0) → (ProgramBreach → Type 0) → Refusal → Type 0
IsFaultOfProgram read rule (refusals.Read file) = read file
IsFaultOfProgram read rule (refusals.Program breach) = rule breach
IsFaultOfProgram read rule refusals.OutOfMemory = Unit {0}
IsFaultOfProgram read rule refusal = ⊥

-- where a plan is made: a rule of plans is broken or a segment has no port, or no memory was found
abbrev pub IsFaultOfPlan : (Rule → Type 0) → Refusal → Type 0
IsFaultOfPlan rule (refusals.Program breach) = rule (Program breach)
IsFaultOfPlan rule (refusals.Plan breach) = rule (Plan breach)
IsFaultOfPlan rule refusals.OutOfMemory = Unit {0}
IsFaultOfPlan rule refusal = ⊥

-- where a question is looked at: a name is unknown, or no memory was found
abbrev pub IsFaultOfName : (Unknown → Type 0) → Refusal → Type 0
IsFaultOfName rule (refusals.Name unknown) = rule unknown
IsFaultOfName rule refusals.OutOfMemory = Unit {0}
IsFaultOfName rule refusal = ⊥
