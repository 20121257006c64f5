-- Why a run of words ends in a refusal, from why its steps do.
use Rattle.std.specs.Prelude.{ℕ, ◌+◌, List, Option, Result, Ok, Err, IfOk, IfErr, OnOk, ◌⊎◌}
use Rattle.std.proofs.Common.{◌≡◌, inl, inr, refl, subst, arith}
use Rattle.sim_io.specs.Sink.{Rose, Got}
use Rattle.run_gear.specs.declared.fault.TraceFault.{TraceFault}
use Rattle.run_gear.specs.declared.fault.RunFault.{RunFault}
use Rattle.run_gear.specs.declared.fault.RunFault.TheVariants as faults
use Rattle.top_run.specs.declared.command.Command.{Command}
use Rattle.top_run.specs.declared.job.Job.{Job}
use Rattle.top_run.specs.declared.status.Status.{Status}
use Rattle.top_run.specs.declared.refusal.Refusal.{Refusal}
use Rattle.top_run.specs.declared.refusal.Refusal.TheVariants as refusals
use Rattle.top_run.specs.Words.{Accepts, RefusedAt, IsUsage}
use Rattle.top_run.specs.Job.{Rule, Means}
use Rattle.top_run.specs.Top.{job_status, all_lines, job_written, job_steps, IsJob, HasRun, SomeJob, FailedAt, FailedBehind, ReadFailed, IsFaultOfJob, IsFaultOfFile, IsCause, IsUnwritten, IsUnreported, IsFaultOfEngine, IsFaultOfRun, refusal_of, IsBroken, rule_status}

pub has_run : (r : Result Status Refusal) (contents : List ℕ → Option (List ℕ)) (words : List (List ℕ)) (command : Command) (job : Job) (old new : Option (List ℕ)) (before after : ℕ) → IsJob contents words command job → IfOk r (λ (s : Status). s.0 ≡ job_status job) → OnOk r (Got old new (job_written job)) → OnOk r (after ≡ before + job_steps job) → IfOk r (λ (s : Status). HasRun contents words s.0 old new before after)
has_run (Ok s) contents words command job old new before after is status written steps = record { command = command; job = job; is_job = is; status_is = status; written = written; steps = steps }
has_run (Err e) contents words command job old new before after is status written steps = status

module _ (contents : List ℕ → Option (List ℕ)) (first last : List ℕ → ℕ) (words : List (List ℕ)) (before after : ℕ) (old new : Option (List ℕ)) where
  pub cause_of_words : (r : Refusal) → IsUsage (RefusedAt words) r → IsCause contents first last words before after old new r
  cause_of_words (refusals.Usage k) is = is
  cause_of_words (refusals.Read file) is = absurd is
  cause_of_words (refusals.Config fault) is = absurd is
  cause_of_words (refusals.Program breach) is = absurd is
  cause_of_words (refusals.Plan breach) is = absurd is
  cause_of_words (refusals.Name unknown) is = absurd is
  cause_of_words refusals.Write is = absurd is
  cause_of_words (refusals.WriteAt d) is = absurd is
  cause_of_words refusals.OutOfMemory is = is

  pub cause_of_file : (command : Command) (r : Refusal) → Accepts words command → IsFaultOfFile (λ name. ReadFailed contents first last command name) (λ rule. Means contents command (Err rule)) r → IsCause contents first last words before after old new r
  cause_of_file command (refusals.Usage k) a is = absurd is
  cause_of_file command (refusals.Read file) a is = (command, a, is)
  cause_of_file command (refusals.Config fault) a is = (command, a, is)
  cause_of_file command (refusals.Program breach) a is = (command, a, is)
  cause_of_file command (refusals.Plan breach) a is = (command, a, is)
  cause_of_file command (refusals.Name unknown) a is = (command, a, is)
  cause_of_file command refusals.Write a is = absurd is
  cause_of_file command (refusals.WriteAt d) a is = absurd is
  cause_of_file command refusals.OutOfMemory a is = is

  pub cause_of_job : (command : Command) (job : Job) (memory : Type 0) (r : Refusal) → IsJob contents words command job → IsFaultOfJob (Rose before after × FailedBehind job old new) (λ d. Rose before after × FailedAt job old new d) memory r → IsCause contents first last words before after old new r
  cause_of_job command job memory (refusals.Usage k) a is = absurd is
  cause_of_job command job memory (refusals.Read file) a is = absurd is
  cause_of_job command job memory (refusals.Config fault) a is = absurd is
  cause_of_job command job memory (refusals.Program breach) a is = absurd is
  cause_of_job command job memory (refusals.Plan breach) a is = absurd is
  cause_of_job command job memory (refusals.Name unknown) a is = absurd is
  cause_of_job command job memory refusals.Write a is = (is.0, (command, job, a, is.1))
  cause_of_job command job memory (refusals.WriteAt d) a is = (is.0, (command, job, a, is.1))
  cause_of_job command job memory refusals.OutOfMemory a is = tt

-- nothing was written so far
pub unwritten_so_far : (same : Type 0) (r : Refusal) → same → IsUnwritten same r
unwritten_so_far same (refusals.Usage k) is = is
unwritten_so_far same (refusals.Read file) is = is
unwritten_so_far same (refusals.Config fault) is = is
unwritten_so_far same (refusals.Program breach) is = is
unwritten_so_far same (refusals.Plan breach) is = is
unwritten_so_far same (refusals.Name unknown) is = is
unwritten_so_far same refusals.Write is = tt
unwritten_so_far same (refusals.WriteAt d) is = tt
unwritten_so_far same refusals.OutOfMemory is = tt

pub unreported_so_far : (lines : Type 0) (r : Refusal) → lines → IsUnreported lines r
unreported_so_far lines (refusals.Usage k) is = tt
unreported_so_far lines (refusals.Read file) is = tt
unreported_so_far lines (refusals.Config fault) is = tt
unreported_so_far lines (refusals.Program breach) is = tt
unreported_so_far lines (refusals.Plan breach) is = tt
unreported_so_far lines (refusals.Name unknown) is = tt
unreported_so_far lines refusals.Write is = tt
unreported_so_far lines (refusals.WriteAt d) is = tt
unreported_so_far lines refusals.OutOfMemory is = is

pub unwritten_of_job : (same behind : Type 0) (at : ℕ → Type 0) (memory : Type 0) (r : Refusal) → IsFaultOfJob behind at memory r → IsUnwritten same r
unwritten_of_job same behind at memory (refusals.Usage k) is = absurd is
unwritten_of_job same behind at memory (refusals.Read file) is = absurd is
unwritten_of_job same behind at memory (refusals.Config fault) is = absurd is
unwritten_of_job same behind at memory (refusals.Program breach) is = absurd is
unwritten_of_job same behind at memory (refusals.Plan breach) is = absurd is
unwritten_of_job same behind at memory (refusals.Name unknown) is = absurd is
unwritten_of_job same behind at memory refusals.Write is = tt
unwritten_of_job same behind at memory (refusals.WriteAt d) is = tt
unwritten_of_job same behind at memory refusals.OutOfMemory is = tt

pub unreported_of_job : (behind : Type 0) (at : ℕ → Type 0) (memory lines : Type 0) (r : Refusal) → (memory → lines) → IsFaultOfJob behind at memory r → IsUnreported lines r
unreported_of_job behind at memory lines (refusals.Usage k) f is = tt
unreported_of_job behind at memory lines (refusals.Read file) f is = tt
unreported_of_job behind at memory lines (refusals.Config fault) f is = tt
unreported_of_job behind at memory lines (refusals.Program breach) f is = tt
unreported_of_job behind at memory lines (refusals.Plan breach) f is = tt
unreported_of_job behind at memory lines (refusals.Name unknown) f is = tt
unreported_of_job behind at memory lines refusals.Write f is = tt
unreported_of_job behind at memory lines (refusals.WriteAt d) f is = tt
unreported_of_job behind at memory lines refusals.OutOfMemory f is = f is

-- the lines of a job are those of some job
pub some_lines : {S : Type 0} (contents : List ℕ → Option (List ℕ)) (words : List (List ℕ)) (command : Command) (job : Job) (old new : Option (List ℕ)) → IsJob contents words command job → S ⊎ Got old new (all_lines job) → S ⊎ SomeJob contents words (λ c j. Got old new (all_lines j))
some_lines contents words command job old new a (inl same) = inl same
some_lines contents words command job old new a (inr got) = inr (command, job, a, got)

-- a fault of an engine, told by its cases
pub fault_of_engine : {A : Type 0} (at : ℕ → Type 0) (memory : Type 0) (r : Result A RunFault) → ((f : TraceFault) → r ≡ Err (faults.Trace f) → at f.upto.0) → (r ≡ Err faults.OutOfMemory → memory) → IfErr r (IsFaultOfEngine at memory)
fault_of_engine at memory (Ok x) f g = tt
fault_of_engine at memory (Err (faults.Trace fault)) f g = f fault refl
fault_of_engine at memory (Err faults.OutOfMemory) f g = g refl

-- and the refusal that it is
pub fault_of_run : (at : ℕ → Type 0) (memory others : Type 0) (f : RunFault) → (memory → others) → IsFaultOfEngine at memory f → IsFaultOfRun at others (refusal_of f)
fault_of_run at memory others (faults.Trace fault) g is = is
fault_of_run at memory others faults.OutOfMemory g is = g is

-- where no memory was found for a job, no part of its report is written
pub unreported_result : (S : Type 0) (r : Result Status Refusal) (behind : Type 0) (at : ℕ → Type 0) (contents : List ℕ → Option (List ℕ)) (words : List (List ℕ)) (command : Command) (job : Job) (old new : Option (List ℕ)) → IsJob contents words command job → IfErr r (IsFaultOfJob behind at (S ⊎ Got old new (all_lines job))) → IfErr r (IsUnreported (S ⊎ SomeJob contents words (λ c j. Got old new (all_lines j))))
unreported_result S (Ok x) behind at contents words command job old new a is = is
unreported_result S (Err e) behind at contents words command job old new a is = unreported_of_job behind at _ _ e (λ lines. some_lines contents words command job old new a lines) is

-- which of the statuses of rules it is
pub is_three : (s : ℕ) → IsBroken s → (s ≡ 3) ⊎ (s ≡ 8) → s ≡ 3
is_three s broken (inl is) = is
is_three s (inl is) (inr eight) = is
is_three s (inr is) (inr eight) = absurd (omega (arith, is, eight))

pub is_four : (s : ℕ) → IsBroken s → (s ≡ 4) ⊎ (s ≡ 8) → s ≡ 4
is_four s broken (inl is) = is
is_four s (inl is) (inr eight) = absurd (omega (arith, is, eight))
is_four s (inr is) (inr eight) = is

-- the status of a rule is that of the same rule
pub told_as : {s : ℕ} {other rule : Rule} → other ≡ rule → (s ≡ rule_status other) ⊎ (s ≡ 8) → (s ≡ rule_status rule) ⊎ (s ≡ 8)
told_as {s} {other} {rule} same either = subst (λ r. (s ≡ rule_status r) ⊎ (s ≡ 8)) same either
