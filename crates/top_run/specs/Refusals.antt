-- The lines of refusals on standard error.
use Rattle.std.specs.Prelude.{ℕ, List, [], ◌∷◌, ◌++◌, codes, Option, ◌⊎◌}
use Rattle.std.specs.Fmt.{decimal}
use Rattle.sim_config.specs.declared.fault.ConfigFault.{ConfigFault}
use Rattle.sim_config.specs.Words as config
use Rattle.elf_load.specs.Rule as elf
use Rattle.plan_rules.specs.declared.breach.Breach.{Breach}
use Rattle.plan_rules.specs.Words as plan
use Rattle.plan_show.specs.declared.question.Unknown.{Unknown}
use Rattle.plan_show.specs.declared.question.Unknown.TheVariants as unknown
use Rattle.sim_io.specs.Sink.{Rose, Got, GotPrefix}
use Rattle.top_run.specs.declared.program_breach.ProgramRule.{ProgramRule}
use Rattle.top_run.specs.declared.program_breach.ProgramRule.TheVariants.{Format, SegmentUnmapped}
use Rattle.top_run.specs.declared.program_breach.ProgramBreach.{ProgramBreach}

abbrev pub line_feed : List ℕ
line_feed = 10 ∷ []

-- the words are refused from word k on
abbrev pub usage_line : ℕ → List ℕ
usage_line k = codes "akita: usage: word " ++ decimal k ++ line_feed

-- which word of `show FILE --at T part NAME` and `show FILE --at T field NAME FIELD` a name is
abbrev pub name_place : Unknown → ℕ
name_place unknown.Part = 6
name_place unknown.Field = 7

-- the file could not be read
abbrev pub read_line : List ℕ → List ℕ
read_line file = codes "akita: read: " ++ file ++ line_feed

-- the file breaks a rule of configurations: the rule, the table and the key
abbrev pub config_line : ConfigFault → List ℕ
config_line fault = codes "akita: config: " ++ config.fault_words fault ++ line_feed

-- the word of a rule of programs
abbrev pub program_word : ProgramRule → List ℕ
program_word (Format rule) = elf.word_of rule
program_word SegmentUnmapped = codes "segment-unmapped"

-- the byte place at which a program breaks a rule, and the end of the line
abbrev pub byte_words : ℕ → List ℕ
byte_words at = codes " at " ++ decimal at ++ line_feed

-- the number of the program in front of it
abbrev pub place_words : ℕ → ℕ → List ℕ
place_words program at = decimal program ++ byte_words at

-- a program breaks a rule: the rule and its place
abbrev pub program_line : ProgramBreach → List ℕ
program_line breach = codes "akita: program: " ++ program_word breach.rule ++ codes " " ++ place_words breach.program breach.at

-- the file breaks a rule of plans: the rule and the table
abbrev pub plan_line : Breach → List ℕ
plan_line breach = codes "akita: plan: " ++ plan.rule_words breach.rule ++ codes " " ++ config.table_words breach.table ++ line_feed

abbrev pub write_line : List ℕ
write_line = codes "akita: write\n"

-- d is the boundary behind the time of the line that was not written
abbrev pub write_at_line : ℕ → List ℕ
write_at_line d = codes "akita: write at " ++ decimal d ++ line_feed

abbrev pub memory_line : List ℕ
memory_line = codes "akita: memory\n"

-- the object got the line, or else its count of faults rose and it got a prefix of the line
abbrev pub Told : List ℕ → Option (List ℕ) → Option (List ℕ) → ℕ → ℕ → Type 0
Told line old new before after = Got old new line ⊎ (Rose before after × GotPrefix old new line)
