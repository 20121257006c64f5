use Rattle.std.proofs.Common.{rules, ◌≡◌, Some, codes, IsTrue}
use Rattle.std.specs.Prelude.{slice_get}
use Rattle.top_run.specs.declared.command.Command.{Command}
use Rattle.top_run.specs.declared.command.Command.TheVariants as commands
use Rattle.top_run.specs.Words.{spelled, RefusedAt, IsUsage, command_word}
use Rattle.top_run.proofs.WordRefusals.{usage_map, behind_word, no_word}
use Rattle.top_run.proofs.CommandRefusals.{behind_ring, behind_check, behind_run, behind_slow, behind_show, behind_storm, some_check}
use Rattle.top_run.proofs.words.read_words.Goals as goal

pub returns-in_err-read_ring-clause-refused : goal.returns-in_err-read_ring-clause-refused
returns-in_err-read_ring-clause-refused c =
    let words = spelled c.args.words.now in
    let yes : IsTrue c.is_word.result = search rules in
    let told : IsUsage (RefusedAt words) c.in_err-read_ring.field-0.0 = usage_map _ (RefusedAt words) _ (λ k r. behind_word (codes "ring") words k (c.is_word.ensures.0 yes) (behind_ring words k r)) c.in_err-read_ring.ensures.refused in
    search rules

pub returns-in_err-read_check-clause-refused : goal.returns-in_err-read_check-clause-refused
returns-in_err-read_check-clause-refused c =
    let words = spelled c.args.words.now in
    let yes : IsTrue c.is_word-2.result = search rules in
    let told : IsUsage (RefusedAt words) c.in_err-read_check.field-0.0 = usage_map _ (RefusedAt words) _ (λ k r. behind_word (codes "check") words k (c.is_word-2.ensures.0 yes) (behind_check words k r)) c.in_err-read_check.ensures.refused in
    search rules

pub returns-in_err-file-clause-refused : goal.returns-in_err-file-clause-refused
returns-in_err-file-clause-refused c =
    let words = spelled c.args.words.now in
    let yes : IsTrue c.is_word-3.result = search rules in
    let told : IsUsage (RefusedAt words) c.in_err-file.field-0.0 = usage_map _ (RefusedAt words) _ (λ k r. behind_word (codes "run") words k (c.is_word-3.ensures.0 yes) (behind_run words k r)) c.in_err-file.ensures.refused in
    search rules

pub returns-in_err-file-2-clause-refused : goal.returns-in_err-file-2-clause-refused
returns-in_err-file-2-clause-refused c =
    let words = spelled c.args.words.now in
    let yes : IsTrue c.is_word-4.result = search rules in
    let told : IsUsage (RefusedAt words) c.in_err-file-2.field-0.0 = usage_map _ (RefusedAt words) _ (λ k r. behind_word (codes "slow") words k (c.is_word-4.ensures.0 yes) (behind_slow words k r)) c.in_err-file-2.ensures.refused in
    search rules

pub returns-in_err-file-3-clause-refused : goal.returns-in_err-file-3-clause-refused
returns-in_err-file-3-clause-refused c =
    let words = spelled c.args.words.now in
    let yes : IsTrue c.is_word-5.result = search rules in
    let told : IsUsage (RefusedAt words) c.in_err-file-3.field-0.0 = usage_map _ (RefusedAt words) _ (λ k r. behind_word (codes "show") words k (c.is_word-5.ensures.0 yes) (behind_show words k r)) c.in_err-file-3.ensures.refused in
    search rules

pub returns-in_err-read_storm-clause-refused : goal.returns-in_err-read_storm-clause-refused
returns-in_err-read_storm-clause-refused c =
    let words = spelled c.args.words.now in
    let yes : IsTrue c.is_word-6.result = search rules in
    let told : IsUsage (RefusedAt words) c.in_err-read_storm.field-0.0 = usage_map _ (RefusedAt words) _ (λ k r. behind_word (codes "storm") words k (c.is_word-6.ensures.0 yes) (behind_storm words k r)) c.in_err-read_storm.ensures.refused in
    search rules

pub returns-clause-refused : goal.returns-clause-refused
returns-clause-refused c =
    let words = spelled c.args.words.now in
    let ring : slice_get words 0 ≡ Some (codes "ring") → ⊥ = λ h. let yes = c.is_word.ensures.1 h in search rules in
    let check : slice_get words 0 ≡ Some (codes "check") → ⊥ = λ h. let yes = c.is_word-2.ensures.1 h in search rules in
    let run : slice_get words 0 ≡ Some (codes "run") → ⊥ = λ h. let yes = c.is_word-3.ensures.1 h in search rules in
    let slow : slice_get words 0 ≡ Some (codes "slow") → ⊥ = λ h. let yes = c.is_word-4.ensures.1 h in search rules in
    let show : slice_get words 0 ≡ Some (codes "show") → ⊥ = λ h. let yes = c.is_word-5.ensures.1 h in search rules in
    let storm : slice_get words 0 ≡ Some (codes "storm") → ⊥ = λ h. let yes = c.is_word-6.ensures.1 h in search rules in
    no_word words (no_command words ring check run slow show storm) some_check
  where
    no_command : (words : _) → (slice_get words 0 ≡ Some (codes "ring") → ⊥) → (slice_get words 0 ≡ Some (codes "check") → ⊥) → (slice_get words 0 ≡ Some (codes "run") → ⊥) → (slice_get words 0 ≡ Some (codes "slow") → ⊥) → (slice_get words 0 ≡ Some (codes "show") → ⊥) → (slice_get words 0 ≡ Some (codes "storm") → ⊥) → (k : Command) → slice_get words 0 ≡ Some (command_word k) → ⊥
    no_command words ring check run slow show storm (commands.Ring r) = ring
    no_command words ring check run slow show storm (commands.Check f) = check
    no_command words ring check run slow show storm (commands.Run f o) = run
    no_command words ring check run slow show storm (commands.Slow f o) = slow
    no_command words ring check run slow show storm (commands.Show f a q) = show
    no_command words ring check run slow show storm (commands.Storm n) = storm
