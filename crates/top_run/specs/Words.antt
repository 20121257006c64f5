-- The words that the program accepts, and where others are refused.
use Rattle.std.specs.Prelude.{◌≡◌, ◌≢◌, ℕ, ◌+◌, ◌<◌, ◌≤◌, List, [], ◌∷◌, map, take, drop, flat_map, codes, String, string_bytes, Some, None, slice_get, Bool, true, false}
use Rattle.std.specs.Fmt.{decimal}
use Rattle.std.specs.Global.{Global}
use Rattle.std.proofs.Common.{suc}
use Rattle.sim_base.specs.declared.time.Time.{Time}
use Rattle.plan_show.specs.declared.question.Question.{Question}
use Rattle.plan_show.specs.declared.question.Question.TheVariants as questions
use Rattle.top_run.specs.declared.command.Ring.{Ring}
use Rattle.top_run.specs.declared.command.Options.{Options}
use Rattle.top_run.specs.declared.command.Detail.{Detail}
use Rattle.top_run.specs.declared.command.Detail.TheVariants.{Trace, Stats, Dump}
use Rattle.top_run.specs.declared.command.Command.{Command}
use Rattle.top_run.specs.declared.command.Command.TheVariants as commands
use Rattle.top_run.specs.declared.refusal.Refusal.{Refusal}
use Rattle.top_run.specs.declared.refusal.Refusal.TheVariants as refusals

-- the bytes of each word
abbrev pub spelled : List (String Global) → List (List ℕ)
spelled words = map string_bytes words

-- the greatest time that runs, in picoseconds
abbrev pub latest : ℕ
latest = 500000000000

-- the numbers of a ring are in their ranges
abbrev pub InRange : Ring → Type 0
InRange ring = (1 ≤ ring.relays) × (ring.relays ≤ 256) × (ring.until.0 ≤ latest)

-- the number of a storm's agents is in its range
abbrev pub IsFew : ℕ → Type 0
IsFew agents = (1 ≤ agents) × (agents ≤ 252)

-- a word that names a file has a first byte, which is no `-`
abbrev pub IsFile : List ℕ → Type 0
IsFile name = (first : ℕ) × (slice_get name 0 ≡ Some first) × (first ≢ 45)

-- the word that asks for a detail
abbrev pub detail_word : Detail → List ℕ
detail_word Trace = codes "--trace"
detail_word Stats = codes "--stats"
detail_word Dump = codes "--dump"

-- the options ask for it
abbrev pub has_detail : Options → Detail → Bool
has_detail options Trace = options.trace
has_detail options Stats = options.stats
has_detail options Dump = options.dump

-- the options and this detail beside them
abbrev pub with_detail : Options → Detail → Options
with_detail options Trace = record options { trace = true }
with_detail options Stats = record options { stats = true }
with_detail options Dump = record options { dump = true }

-- the options with this greatest time
abbrev pub with_time : Options → ℕ → Options
with_time options t = record options { until = Some (record { 0 = t }) }

-- one option: a greatest time, or a detail
pub data Setting : Type 0 where
  Until : ℕ → Setting
  Shows : Detail → Setting

-- how it is written
abbrev pub setting_words : Setting → List (List ℕ)
setting_words (Until t) = codes "--until" ∷ decimal t ∷ []
setting_words (Shows detail) = detail_word detail ∷ []

-- its number is in its range
abbrev pub IsAllowed : Setting → Type 0
IsAllowed (Until t) = t ≤ latest
IsAllowed (Shows detail) = Unit {0}

-- nothing was said of it before
abbrev pub IsFree : Options → Setting → Type 0
IsFree options (Until t) = options.until ≡ None
IsFree options (Shows detail) = has_detail options detail ≡ false

-- the options with this one
abbrev pub with_setting : Options → Setting → Options
with_setting options (Until t) = with_time options t
with_setting options (Shows detail) = with_detail options detail

-- settings in any order, each of which is made at most once, lead from some options to others
abbrev pub Lead : Options → List Setting → Options → Type 0
Lead before [] after = before ≡ after
Lead before (s ∷ ss) after = IsFree before s × IsAllowed s × Lead (with_setting before s) ss after

-- the words are such settings
abbrev pub AreSettings : Options → Options → List (List ℕ) → Type 0
AreSettings before after words = (settings : List Setting) × (words ≡ flat_map setting_words settings) × Lead before settings after

abbrev pub no_options : Options
no_options = record { until = None; trace = false; stats = false; dump = false }

-- the numbers of `ring N UNTIL`
abbrev pub AreRing : Ring → List (List ℕ) → Type 0
AreRing ring words = (words ≡ decimal ring.relays ∷ decimal ring.until.0 ∷ []) × InRange ring

-- the number of `storm N`
abbrev pub AreStorm : ℕ → List (List ℕ) → Type 0
AreStorm agents words = (words ≡ decimal agents ∷ []) × IsFew agents

-- a file and nothing behind it
abbrev pub AreFile : List ℕ → List (List ℕ) → Type 0
AreFile file words = (words ≡ file ∷ []) × IsFile file

-- a file and options behind it
abbrev pub AreFileAndOptions : List ℕ → Options → List (List ℕ) → Type 0
AreFileAndOptions file options words = (rest : List (List ℕ)) × (words ≡ file ∷ rest) × IsFile file × AreSettings no_options options rest

-- the word that says what is asked
abbrev pub question_word : Question → List ℕ
question_word questions.Now = codes "now"
question_word questions.Parts = codes "parts"
question_word (questions.Part name) = codes "part"
question_word (questions.Field name field) = codes "field"
question_word questions.Buffers = codes "buffers"
question_word questions.Progress = codes "progress"
question_word questions.Stuck = codes "stuck"

-- the names that stand behind it
abbrev pub question_names : Question → List (List ℕ)
question_names questions.Now = []
question_names questions.Parts = []
question_names (questions.Part name) = name ∷ []
question_names (questions.Field name field) = name ∷ field ∷ []
question_names questions.Buffers = []
question_names questions.Progress = []
question_names questions.Stuck = []

abbrev pub question_words : Question → List (List ℕ)
question_words question = question_word question ∷ question_names question

-- a file, `--at T`, and a question
abbrev pub AreShow : List ℕ → Time → Question → List (List ℕ) → Type 0
AreShow file at question words = (words ≡ file ∷ codes "--at" ∷ decimal at.0 ∷ question_words question) × IsFile file × (at.0 ≤ latest)

-- the first word of a command
abbrev pub command_word : Command → List ℕ
command_word (commands.Ring ring) = codes "ring"
command_word (commands.Check file) = codes "check"
command_word (commands.Run file options) = codes "run"
command_word (commands.Slow file options) = codes "slow"
command_word (commands.Show file at question) = codes "show"
command_word (commands.Storm agents) = codes "storm"

-- and the words behind it: `ring N UNTIL`, `check FILE`, `run FILE` and options, `slow FILE` and options, `show FILE --at T` and a
-- question, `storm N`
abbrev pub AreBehind : Command → List (List ℕ) → Type 0
AreBehind (commands.Ring ring) = AreRing ring
AreBehind (commands.Check file) = AreFile file
AreBehind (commands.Run file options) = AreFileAndOptions file options
AreBehind (commands.Slow file options) = AreFileAndOptions file options
AreBehind (commands.Show file at question) = AreShow file at question
AreBehind (commands.Storm agents) = AreStorm agents

-- the words are those of a command
abbrev pub Accepts : List (List ℕ) → Command → Type 0
Accepts words command = (rest : List (List ℕ)) × (words ≡ command_word command ∷ rest) × AreBehind command rest

-- some command is written so
abbrev pub IsAccepted : List (List ℕ) → Type 0
IsAccepted words = (command : Command) × Accepts words command

-- a list of a sort has the same first k words
abbrev pub Shares : (List (List ℕ) → Type 0) → ℕ → List (List ℕ) → Type 0
Shares sort k words = (others : List (List ℕ)) × sort others × (take k others ≡ take k words)

-- k is the least number such that no list of a sort has the same first k words
pub record IsRefusedAs (sort : List (List ℕ) → Type 0) (words : List (List ℕ)) (k : ℕ) : Type 0 where
  pub none : Shares sort k words → ⊥
  pub before : (j : ℕ) → j < k → Shares sort j words

-- k is the least number such that no accepted list has the same first k words
abbrev pub RefusedAt : List (List ℕ) → ℕ → Type 0
RefusedAt words k = IsRefusedAs IsAccepted words k

-- the words from a place on are refused as a list of a sort; k counts all words
abbrev pub IsRefusedFrom : (List (List ℕ) → Type 0) → List (List ℕ) → ℕ → ℕ → Type 0
IsRefusedFrom sort words place k = (j : ℕ) × (k ≡ place + suc j) × IsRefusedAs sort (drop place words) (suc j)

-- the word of this place, from 0 on, is this number in decimal, and the number is in the range
pub record IsNumberAt (words : List (List ℕ)) (place least most n : ℕ) : Type 0 where
  pub word : slice_get words place ≡ Some (decimal n)
  pub from : least ≤ n
  pub within : n ≤ most

-- what may follow the first word of some command
abbrev pub IsBehind : List ℕ → List (List ℕ) → Type 0
IsBehind word words = (command : Command) × (command_word command ≡ word) × AreBehind command words

abbrev pub IsRing : List (List ℕ) → Type 0
IsRing words = (ring : Ring) × AreRing ring words

abbrev pub IsStorm : List (List ℕ) → Type 0
IsStorm words = (agents : ℕ) × AreStorm agents words

abbrev pub IsOneFile : List (List ℕ) → Type 0
IsOneFile words = (file : List ℕ) × AreFile file words

abbrev pub IsFileAndOptions : List (List ℕ) → Type 0
IsFileAndOptions words = (file : List ℕ) × (options : Options) × AreFileAndOptions file options words

abbrev pub IsShow : List (List ℕ) → Type 0
IsShow words = (file : List ℕ) × (at : Time) × (question : Question) × AreShow file at question words

abbrev pub IsQuestion : List (List ℕ) → Type 0
IsQuestion words = (question : Question) × (words ≡ question_words question)

-- options behind others
abbrev pub HasOptions : Options → List (List ℕ) → Type 0
HasOptions before words = (after : Options) × AreSettings before after words

-- the words are refused at a number of which this is true, or no memory was found
abbrev pub IsUsage : (ℕ → Type 0) → Refusal → Type 0
IsUsage fact (refusals.Usage k) = fact k
IsUsage fact refusals.OutOfMemory = Unit {0}
IsUsage fact refusal = ⊥
