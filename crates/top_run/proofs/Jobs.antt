-- What a file means, from what it gave.
use Rattle.std.proofs.Common.{◌≡◌, ℕ, zero, suc, ◌+◌, ◌<◌, ◌≤◌, List, [], ◌∷◌, length, refl, sym, ap, ◌∙◌, subst, arith, inl}
use Rattle.std.specs.Prelude.{Option, Some, None, IfSome, IfOk, IfErr, Result, Ok, Err, nat_le, nat_lt, ◌-◌, ◌^◌, min, true, false}
use Rattle.std.proofs.lemmas.Bool.Decides.{nat_tests}
use Rattle.sim_base.specs.declared.time.Time.{Time}
use Rattle.sim_io.specs.Sink.{Rose}
use Rattle.sim_config.specs.Tables.{PlanTables, ProgramTable}
use Rattle.sim_config.specs.Meaning.{config_of, longest_file}
use Rattle.sim_config.specs.declared.fault.ConfigFault.{ConfigFault}
use Rattle.sim_config.specs.declared.fault.ConfigFault.TheVariants.{Broken}
use Rattle.sim_config.specs.declared.fault.ConfigRule.TheVariants as config_rules
use Rattle.sim_config.specs.declared.fault.TableNo.TheVariants.{Top}
use Rattle.elf_load.specs.Rules.{first_broken}
use Rattle.elf_load.specs.declared.rule.ElfRule.TheVariants as elf_rules
use Rattle.elf_load.specs.declared.image.Image.{Image}
use Rattle.top_run.specs.declared.program_breach.ProgramRule.TheVariants.{Format}
use Rattle.top_run.specs.declared.program_breach.ProgramBreach.{ProgramBreach}
use Rattle.top_run.specs.declared.refusal.Refusal.{Refusal}
use Rattle.top_run.specs.declared.refusal.Refusal.TheVariants as refusals
use Rattle.top_run.specs.declared.machine.Machine.{Machine}
use Rattle.plan_show.specs.declared.question.Unknown.{Unknown}
use Rattle.top_run.specs.Job.{Rule, Config, Program, Plan, Name, Gave, AreOwn, BreaksFormat, AreRead, IsProgramName, MeansFile, IsNameOfFile, machine_of_plan, with_budget, IsFaultOfReading, IsFaultOfProgram, IsFaultOfPlan, IsFaultOfName}
use Rattle.top_run.specs.Top.{IsFaultOfFile}
use Rattle.top_run.proofs.Loading.{breach_of, file_means, fault_means, name_means, own_from, read_more, name_more}

-- bytes that are more than any number
more_bytes : (n : ℕ) → (bytes : List ℕ) × (n < length bytes)
more_bytes zero = (0 ∷ [], omega arith)
more_bytes (suc n) = (0 ∷ (more_bytes n).0, let b = (more_bytes n).1 in omega (arith, b))

-- a file that has more bytes than a number has some
some_longer : (told : Option (List ℕ)) (limit : ℕ) → IfSome told (λ own. limit < length own) → Gave told (λ bytes. limit < length bytes)
some_longer (Some own) limit b = (own, refl, b)
some_longer None limit b = let long = more_bytes limit in (long.0, tt, long.1)

config_too_long : (bytes : List ℕ) → longest_file < length bytes → config_of bytes ≡ Err (Broken config_rules.TooLong Top None)
unfolding config_of
config_too_long bytes b =
    let test : nat_lt longest_file (length bytes) ≡ true = grind (arith, nat_tests) in
    rw test refl

-- a file that is too long breaks the rule that says so
pub too_long_gave : (told : Option (List ℕ)) → IfSome told (λ own. longest_file < length own) → Gave told (λ bytes. config_of bytes ≡ Err (Broken config_rules.TooLong Top None))
too_long_gave told b = let long = some_longer told longest_file b in (long.0, long.1, config_too_long long.0 long.2)

program_too_long : (bytes : List ℕ) → 8388608 < length bytes → first_broken bytes ≡ Some (elf_rules.TooLong, 8388608)
unfolding first_broken
program_too_long bytes b =
    let test : nat_le (length bytes) 8388608 ≡ false = grind (arith, nat_tests) in
    rw test refl

-- so does a program
pub too_long_breaks : (contents : List ℕ → Option (List ℕ)) (file : List ℕ) (number : ℕ) → IfSome (contents file) (λ own. 8388608 < length own) → BreaksFormat (AreOwn contents) file (breach_of number (Format elf_rules.TooLong) 8388608)
too_long_breaks contents file number b = let long = some_longer (contents file) 8388608 b in (long.0, long.1, (elf_rules.TooLong, refl, program_too_long long.0 long.2))

-- a count that rose behind others
pub rose_behind : (a b c : ℕ) → a ≤ b → Rose b c → Rose a c
rose_behind a b c first rose = let h : min (b + 1) (2 ^ 64 - 1) ≤ c = rose in let r : min (a + 1) (2 ^ 64 - 1) ≤ c = omega (arith, first, h) in r

-- faults of readings are faults of the file
file_from_text : (P Q : List ℕ → Type 0) (F : ConfigFault → Type 0) (R : Rule → Type 0) → ((name : List ℕ) → P name → Q name) → ((fault : ConfigFault) → F fault → R (Config fault)) → (r : Refusal) → IsFaultOfReading P F r → IsFaultOfFile Q R r
file_from_text P Q F R f g (refusals.Usage k) is = is
file_from_text P Q F R f g (refusals.Read file) is = f file is
file_from_text P Q F R f g (refusals.Config fault) is = g fault is
file_from_text P Q F R f g (refusals.Program breach) is = absurd is
file_from_text P Q F R f g (refusals.Plan breach) is = absurd is
file_from_text P Q F R f g (refusals.Name unknown) is = absurd is
file_from_text P Q F R f g refusals.Write is = is
file_from_text P Q F R f g (refusals.WriteAt d) is = is
file_from_text P Q F R f g refusals.OutOfMemory is = is

file_from_programs : (P Q : List ℕ → Type 0) (B : ProgramBreach → Type 0) (R : Rule → Type 0) → ((name : List ℕ) → P name → Q name) → ((breach : ProgramBreach) → B breach → R (Program breach)) → (r : Refusal) → IsFaultOfProgram P B r → IsFaultOfFile Q R r
file_from_programs P Q B R f g (refusals.Usage k) is = is
file_from_programs P Q B R f g (refusals.Read file) is = f file is
file_from_programs P Q B R f g (refusals.Config fault) is = absurd is
file_from_programs P Q B R f g (refusals.Program breach) is = g breach is
file_from_programs P Q B R f g (refusals.Plan breach) is = absurd is
file_from_programs P Q B R f g (refusals.Name unknown) is = absurd is
file_from_programs P Q B R f g refusals.Write is = is
file_from_programs P Q B R f g (refusals.WriteAt d) is = is
file_from_programs P Q B R f g refusals.OutOfMemory is = is

pub file_from_plan : (Q : List ℕ → Type 0) (S R : Rule → Type 0) → ((rule : Rule) → S rule → R rule) → (r : Refusal) → IsFaultOfPlan S r → IsFaultOfFile Q R r
file_from_plan Q S R f (refusals.Usage k) is = is
file_from_plan Q S R f (refusals.Read file) is = absurd is
file_from_plan Q S R f (refusals.Config fault) is = absurd is
file_from_plan Q S R f (refusals.Program breach) is = f (Program breach) is
file_from_plan Q S R f (refusals.Plan breach) is = f (Plan breach) is
file_from_plan Q S R f (refusals.Name unknown) is = absurd is
file_from_plan Q S R f refusals.Write is = is
file_from_plan Q S R f (refusals.WriteAt d) is = is
file_from_plan Q S R f refusals.OutOfMemory is = is

-- and so are unknown names of a question
pub file_from_name : (Q : List ℕ → Type 0) (U : Unknown → Type 0) (R : Rule → Type 0) → ((unknown : Unknown) → U unknown → R (Name unknown)) → (r : Refusal) → IsFaultOfName U r → IsFaultOfFile Q R r
file_from_name Q U R f (refusals.Usage k) is = is
file_from_name Q U R f (refusals.Read file) is = absurd is
file_from_name Q U R f (refusals.Config fault) is = absurd is
file_from_name Q U R f (refusals.Program breach) is = absurd is
file_from_name Q U R f (refusals.Plan breach) is = absurd is
file_from_name Q U R f (refusals.Name unknown) is = f unknown is
file_from_name Q U R f refusals.Write is = is
file_from_name Q U R f (refusals.WriteAt d) is = is
file_from_name Q U R f refusals.OutOfMemory is = is

-- a fault of a file, where its rules say more
pub file_from_file : (Q : List ℕ → Type 0) (S R : Rule → Type 0) → ((rule : Rule) → S rule → R rule) → (r : Refusal) → IsFaultOfFile Q S r → IsFaultOfFile Q R r
file_from_file Q S R f (refusals.Usage k) is = is
file_from_file Q S R f (refusals.Read file) is = is
file_from_file Q S R f (refusals.Config fault) is = f (Config fault) is
file_from_file Q S R f (refusals.Program breach) is = f (Program breach) is
file_from_file Q S R f (refusals.Plan breach) is = f (Plan breach) is
file_from_file Q S R f (refusals.Name unknown) is = f (Name unknown) is
file_from_file Q S R f refusals.Write is = is
file_from_file Q S R f (refusals.WriteAt d) is = is
file_from_file Q S R f refusals.OutOfMemory is = is

pub program_from : (P Q : List ℕ → Type 0) (B C : ProgramBreach → Type 0) → ((name : List ℕ) → P name → Q name) → ((breach : ProgramBreach) → B breach → C breach) → (r : Refusal) → IsFaultOfProgram P B r → IsFaultOfProgram Q C r
program_from P Q B C f g (refusals.Usage k) is = is
program_from P Q B C f g (refusals.Read file) is = f file is
program_from P Q B C f g (refusals.Config fault) is = is
program_from P Q B C f g (refusals.Program breach) is = g breach is
program_from P Q B C f g (refusals.Plan breach) is = is
program_from P Q B C f g (refusals.Name unknown) is = is
program_from P Q B C f g refusals.Write is = is
program_from P Q B C f g (refusals.WriteAt d) is = is
program_from P Q B C f g refusals.OutOfMemory is = is

-- a fault of the reading of a file is one of its job
pub fault_of_text : (old : List ℕ → Option (List ℕ)) (first last : List ℕ → ℕ) (until : Option Time) (file : List ℕ) (r : Refusal) → IsFaultOfReading (λ name. (name ≡ file) × Rose (first file) (last file)) (λ fault. Gave (old file) (λ bytes. config_of bytes ≡ Err fault)) r → IsFaultOfFile (λ name. IsNameOfFile (AreOwn old) file name × Rose (first name) (last name)) (λ rule. MeansFile (AreOwn old) until file (Err rule)) r
fault_of_text old first last until file r is = file_from_text _ (λ name. IsNameOfFile (AreOwn old) file name × Rose (first name) (last name)) _ (λ rule. MeansFile (AreOwn old) until file (Err rule))
    (λ name read. (inl read.0, subst (λ n. Rose (first n) (last n)) (sym read.0) read.1))
    (λ fault given. fault_means (AreOwn old) until file given.0 given.1 fault given.2)
    r is

-- what a file means that gave a text with these program tables, in files whose contents stayed
module _ (old now : List ℕ → Option (List ℕ)) (until : Option Time) (file : List ℕ) (stayed : (name : List ℕ) → now name ≡ old name) (text : PlanTables) (gave : Gave (old file) (λ bytes. config_of bytes ≡ Ok text)) (tables : List ProgramTable) (rows : tables ≡ text.programs) where
  own_read : (r : Result (List Image) ProgramBreach) → AreRead (AreOwn now) tables r → AreRead (AreOwn old) text.programs r
  own_read r read = subst (λ ts. AreRead (AreOwn old) ts r) rows (read_more (AreOwn now) (AreOwn old) (own_from now old stayed) tables r read)

  -- a fault of the reading of its programs is one of its job
  pub fault_of_programs : (first mid last : List ℕ → ℕ) (r : Refusal) → ((name : List ℕ) → first name ≤ mid name) → IsFaultOfProgram (λ name. IsProgramName (AreOwn now) tables name × Rose (mid name) (last name)) (λ breach. AreRead (AreOwn now) tables (Err breach)) r → IsFaultOfFile (λ name. IsNameOfFile (AreOwn old) file name × Rose (first name) (last name)) (λ rule. MeansFile (AreOwn old) until file (Err rule)) r
  fault_of_programs first mid last r rise is = file_from_programs _ (λ name. IsNameOfFile (AreOwn old) file name × Rose (first name) (last name)) _ (λ rule. MeansFile (AreOwn old) until file (Err rule))
      (λ name read. (name_means (AreOwn old) until file gave.0 gave.1 text name gave.2 (subst (λ ts. IsProgramName (AreOwn old) ts name) rows (name_more (AreOwn now) (AreOwn old) (own_from now old stayed) tables name read.0)), rose_behind (first name) (mid name) (last name) (rise name) read.1))
      (λ breach read. file_means (AreOwn old) until file gave.0 gave.1 text (Err breach) (Err (Program breach)) gave.2 (own_read (Err breach) read) refl)
      r is

  -- and what its plan means it does
  pub means_of_plan : (images : List Image) (plan : PlanTables) (meaning : Result Machine Rule) → AreRead (AreOwn now) tables (Ok images) → plan ≡ with_budget until text → machine_of_plan images plan ≡ meaning → MeansFile (AreOwn old) until file meaning
  means_of_plan images plan meaning read is e = file_means (AreOwn old) until file gave.0 gave.1 text (Ok images) meaning gave.2 (own_read (Ok images) read) (ap (machine_of_plan images) (sym is) ∙ e)

  pub plan_means : (images : List Image) (plan : PlanTables) (r : Result Machine Refusal) → AreRead (AreOwn now) tables (Ok images) → plan ≡ with_budget until text → IfOk r (λ machine. machine_of_plan images plan ≡ Ok machine) → IfOk r (λ machine. MeansFile (AreOwn old) until file (Ok machine))
  plan_means images plan (Ok machine) read is e = means_of_plan images plan (Ok machine) read is e
  plan_means images plan (Err refusal) read is e = tt

  pub fault_of_plan : (images : List Image) (plan : PlanTables) (Q : List ℕ → Type 0) (r : Result Machine Refusal) → AreRead (AreOwn now) tables (Ok images) → plan ≡ with_budget until text → IfErr r (IsFaultOfPlan (λ rule. machine_of_plan images plan ≡ Err rule)) → IfErr r (IsFaultOfFile Q (λ rule. MeansFile (AreOwn old) until file (Err rule)))
  fault_of_plan images plan Q (Ok machine) read is fault = tt
  fault_of_plan images plan Q (Err r) read is fault = file_from_plan Q (λ rule. machine_of_plan images plan ≡ Err rule) (λ rule. MeansFile (AreOwn old) until file (Err rule)) (λ rule e. means_of_plan images plan (Err rule) read is e) r fault

-- the programs of a text do not depend on its budget
pub same_programs : (until : Option Time) (text : PlanTables) → (with_budget until text).programs ≡ text.programs
same_programs None text = refl
same_programs (Some t) text = refl
