-- No two commands are written alike, so that what a run of the words leaves is told by their command.
use Rattle.std.proofs.Common.{◌≡◌, ℕ, ◌≤◌, List, [], ◌∷◌, ◌⊎◌, inr, refl, sym, ap, subst, ◌∙◌, arith}
use Rattle.std.specs.Prelude.{Option, codes, flat_map, get_or, IfSome, Result, Ok, Err}
use Rattle.std.specs.Fmt.{decimal}
use Rattle.std.proofs.lemmas.Fmt.{decimal_injective}
use Rattle.sim_io.specs.Sink.{Got}
use Rattle.top_run.specs.declared.command.Ring.{Ring}
use Rattle.top_run.specs.declared.command.Options.{Options}
use Rattle.top_run.specs.declared.command.Detail.{Detail}
use Rattle.top_run.specs.declared.command.Detail.TheVariants.{Trace, Stats, Dump}
use Rattle.top_run.specs.declared.command.Command.{Command}
use Rattle.top_run.specs.declared.command.Command.TheVariants as commands
use Rattle.top_run.specs.declared.job.Job.{Job}
use Rattle.sim_base.specs.declared.time.Time.{Time}
use Rattle.plan_show.specs.declared.question.Question.{Question}
use Rattle.top_run.specs.Words.{latest, Setting, Until, Shows, setting_words, detail_word, with_detail, with_setting, no_options, Lead, AreSettings, AreRing, AreStorm, AreShow, question_words, command_word, AreBehind, Accepts, RefusedAt}
use Rattle.top_run.specs.Job.{Rule, AreOwn, AreTold, Means, IsTold, IsWithin}
use Rattle.top_run.specs.Top.{job_status, job_written, HasRun, SomeFile, SomeJob, ReadFailed, SomeReadFailed}
use Rattle.top_run.proofs.CommandRefusals.{ring_of, differ, differ_second, detail_same, not_until}
use Rattle.top_run.proofs.Questions.{question_same}
use Rattle.top_run.proofs.ShowRefusals.{time_of}
use Rattle.top_run.proofs.Loading.{command_same, told_own}

-- the same numbers
ring_same : (rest : List (List ℕ)) (r q : Ring) → AreRing r rest → AreRing q rest → r ≡ q
ring_same rest r q (e, a) (f, b) =
    let first : decimal r.relays ≡ decimal q.relays = cc in
    let second : decimal r.until.0 ≡ decimal q.until.0 = cc in
    let relays : r.relays ≡ q.relays = decimal_injective r.relays q.relays (omega (arith, a)) (omega (arith, b)) first in
    let until : r.until.0 ≡ q.until.0 = decimal_injective r.until.0 q.until.0 (omega (arith, a)) (omega (arith, b)) second in
    ap (λ n. ring_of n r.until.0) relays ∙ ap (λ t. ring_of q.relays t) until

-- the same options
settings_same : (ss tt : List Setting) (before o p : Options) → flat_map setting_words ss ≡ flat_map setting_words tt → Lead before ss o → Lead before tt p → o ≡ p
settings_same [] [] before o p e a b = sym a ∙ b
settings_same [] (Until m ∷ tt) before o p e a b = absurd (cc)
settings_same [] (Shows d ∷ tt) before o p e a b = absurd (cc)
settings_same (Shows d ∷ ss) [] before o p e a b = absurd (cc)
settings_same (Shows d ∷ ss) (Until m ∷ tt) before o p e a b = let head : detail_word d ≡ codes "--until" = cc in not_until d head
settings_same (Until n ∷ ss) (Shows d ∷ tt) before o p e a b = let head : codes "--until" ≡ detail_word d = cc in not_until d (sym head)
settings_same (Shows d ∷ ss) (Shows c ∷ tt) before o p e (_, _, a) (_, _, b) =
    let head : detail_word d ≡ detail_word c = cc in
    let rest : flat_map setting_words ss ≡ flat_map setting_words tt = cc in
    settings_same ss tt (with_detail before c) o p rest (subst (λ x. Lead (with_detail before x) ss o) (detail_same d c head) a) b
settings_same (Until n ∷ ss) [] before o p e a b = absurd (cc)
settings_same (Until n ∷ ss) (Until m ∷ tt) before o p e (_, within, a) (_, near, b) =
    let first : decimal n ≡ decimal m = cc in
    let rest : flat_map setting_words ss ≡ flat_map setting_words tt = cc in
    let same : n ≡ m = decimal_injective n m (omega (arith, within)) (omega (arith, near)) first in
    settings_same ss tt (with_setting before (Until m)) o p rest (subst (λ i. Lead (with_setting before (Until i)) ss o) same a) b

options_same : (rest : List (List ℕ)) (before o p : Options) → AreSettings before o rest → AreSettings before p rest → o ≡ p
options_same rest before o p (ss, e, a) (ts, f, b) = settings_same ss ts before o p (sym e ∙ f) a b

-- the same file, time and question
show_same : (rest : List (List ℕ)) (f g : List ℕ) (a b : Time) (p q : Question) → AreShow f a p rest → AreShow g b q rest → commands.Show f a p ≡ commands.Show g b q
show_same rest f g a b p q (e, _, within) (h, _, near) =
    let file : f ≡ g = cc in
    let time : decimal a.0 ≡ decimal b.0 = cc in
    let asked : question_words p ≡ question_words q = cc in
    let at : a.0 ≡ b.0 = decimal_injective a.0 b.0 (omega (arith, within)) (omega (arith, near)) time in
    ap (λ x. commands.Show x a p) file ∙ ap (λ t. commands.Show g (time_of t) p) at ∙ ap (λ x. commands.Show g b x) (question_same p q asked)

-- the same number of agents
storm_same : (rest : List (List ℕ)) (n m : ℕ) → AreStorm n rest → AreStorm m rest → commands.Storm n ≡ commands.Storm m
storm_same rest n m (e, a) (f, b) =
    let word : decimal n ≡ decimal m = cc in
    ap (λ k. commands.Storm k) (decimal_injective n m (omega (arith, a)) (omega (arith, b)) word)

behind_same : (c d : Command) (rest : List (List ℕ)) → command_word c ≡ command_word d → AreBehind c rest → AreBehind d rest → c ≡ d
behind_same (commands.Ring r) (commands.Ring q) rest e a b = ap (λ x. commands.Ring x) (ring_same rest r q a b)
behind_same (commands.Ring r) (commands.Check g) rest e a b = differ (codes "ring") (codes "check") (λ h. omega (arith, h)) e
behind_same (commands.Ring r) (commands.Run g p) rest e a b = absurd (cc)
behind_same (commands.Ring r) (commands.Slow g p) rest e a b = differ (codes "ring") (codes "slow") (λ h. omega (arith, h)) e
behind_same (commands.Ring r) (commands.Show g b q) rest e x y = differ (codes "ring") (codes "show") (λ h. omega (arith, h)) e
behind_same (commands.Ring r) (commands.Storm m) rest e x y = differ (codes "ring") (codes "storm") (λ h. omega (arith, h)) e
behind_same (commands.Check f) (commands.Ring q) rest e a b = differ (codes "check") (codes "ring") (λ h. omega (arith, h)) e
behind_same (commands.Check f) (commands.Check g) rest e (a, _) (b, _) = let same : f ≡ g = cc in ap (λ x. commands.Check x) same
behind_same (commands.Check f) (commands.Run g p) rest e a b = differ (codes "check") (codes "run") (λ h. omega (arith, h)) e
behind_same (commands.Check f) (commands.Slow g p) rest e a b = differ (codes "check") (codes "slow") (λ h. omega (arith, h)) e
behind_same (commands.Check f) (commands.Show g b q) rest e x y = differ (codes "check") (codes "show") (λ h. omega (arith, h)) e
behind_same (commands.Check f) (commands.Storm m) rest e x y = differ (codes "check") (codes "storm") (λ h. omega (arith, h)) e
behind_same (commands.Run f o) (commands.Ring q) rest e a b = absurd (cc)
behind_same (commands.Run f o) (commands.Check g) rest e a b = differ (codes "run") (codes "check") (λ h. omega (arith, h)) e
behind_same (commands.Run f o) (commands.Run g p) rest e (s, a, _, x) (t, b, _, y) =
    let file : f ≡ g = cc in
    let same : s ≡ t = cc in
    let options : o ≡ p = options_same t no_options o p (subst (λ l. AreSettings no_options o l) same x) y in
    ap (λ z. commands.Run z o) file ∙ ap (λ z. commands.Run g z) options
behind_same (commands.Run f o) (commands.Slow g p) rest e a b = differ (codes "run") (codes "slow") (λ h. omega (arith, h)) e
behind_same (commands.Run f o) (commands.Show g b q) rest e x y = differ (codes "run") (codes "show") (λ h. omega (arith, h)) e
behind_same (commands.Run f o) (commands.Storm m) rest e x y = differ (codes "run") (codes "storm") (λ h. omega (arith, h)) e
behind_same (commands.Slow f o) (commands.Ring q) rest e a b = differ (codes "slow") (codes "ring") (λ h. omega (arith, h)) e
behind_same (commands.Slow f o) (commands.Check g) rest e a b = differ (codes "slow") (codes "check") (λ h. omega (arith, h)) e
behind_same (commands.Slow f o) (commands.Run g p) rest e a b = differ (codes "slow") (codes "run") (λ h. omega (arith, h)) e
behind_same (commands.Slow f o) (commands.Slow g p) rest e (s, a, _, x) (t, b, _, y) =
    let file : f ≡ g = cc in
    let same : s ≡ t = cc in
    let options : o ≡ p = options_same t no_options o p (subst (λ l. AreSettings no_options o l) same x) y in
    ap (λ z. commands.Slow z o) file ∙ ap (λ z. commands.Slow g z) options
behind_same (commands.Slow f o) (commands.Show g b q) rest e x y = let second : 108 ≡ 104 = ap (λ l. get_or l 1 0) e in absurd (omega (arith, second))
behind_same (commands.Slow f o) (commands.Storm m) rest e x y = differ_second (codes "slow") (codes "storm") (λ h. omega (arith, h)) e
behind_same (commands.Show f a p) (commands.Ring q) rest e x y = differ (codes "show") (codes "ring") (λ h. omega (arith, h)) e
behind_same (commands.Show f a p) (commands.Check g) rest e x y = differ (codes "show") (codes "check") (λ h. omega (arith, h)) e
behind_same (commands.Show f a p) (commands.Run g o) rest e x y = differ (codes "show") (codes "run") (λ h. omega (arith, h)) e
behind_same (commands.Show f a p) (commands.Slow g o) rest e x y = let second : 104 ≡ 108 = ap (λ l. get_or l 1 0) e in absurd (omega (arith, second))
behind_same (commands.Show f a p) (commands.Show g b q) rest e x y = show_same rest f g a b p q x y
behind_same (commands.Show f a p) (commands.Storm m) rest e x y = differ_second (codes "show") (codes "storm") (λ h. omega (arith, h)) e
behind_same (commands.Storm n) (commands.Ring q) rest e x y = differ (codes "storm") (codes "ring") (λ h. omega (arith, h)) e
behind_same (commands.Storm n) (commands.Check g) rest e x y = differ (codes "storm") (codes "check") (λ h. omega (arith, h)) e
behind_same (commands.Storm n) (commands.Run g p) rest e x y = differ (codes "storm") (codes "run") (λ h. omega (arith, h)) e
behind_same (commands.Storm n) (commands.Slow g p) rest e x y = differ_second (codes "storm") (codes "slow") (λ h. omega (arith, h)) e
behind_same (commands.Storm n) (commands.Show g b q) rest e x y = differ_second (codes "storm") (codes "show") (λ h. omega (arith, h)) e
behind_same (commands.Storm n) (commands.Storm m) rest e x y = storm_same rest n m x y

pub accepted_same : (words : List (List ℕ)) (c d : Command) → Accepts words c → Accepts words d → c ≡ d
accepted_same words c d (s, e, a) (t, f, b) =
    let word : command_word c ≡ command_word d = cc in
    let same : s ≡ t = cc in
    behind_same c d t word (subst (λ l. AreBehind c l) same a) b

-- what the files tell of a command is what it means
pub meaning_same : (contents : List ℕ → Option (List ℕ)) (c : Command) (x y : Result Job Rule) → IsTold contents c x → Means contents c y → y ≡ x
meaning_same contents c x y told means = sym (command_same (AreTold contents) (AreOwn contents) (told_own contents) c x y told means)

pub completed : (contents : List ℕ → Option (List ℕ)) (words : List (List ℕ)) (status : ℕ) (old new : Option (List ℕ)) (before after : ℕ) (c : Command) (job : Job) → Accepts words c → IsTold contents c (Ok job) → HasRun contents words status old new before after → (status ≡ 8) ⊎ ((status ≡ job_status job) × Got old new (job_written job))
completed contents words status old new before after c job accepts told h =
    let same : h.command ≡ c = accepted_same words h.command c h.is_job.accepts accepts in
    let means : Means contents c (Ok h.job) = subst (λ d. Means contents d (Ok h.job)) same h.is_job.means in
    let equal : Ok h.job ≡ Ok job = meaning_same contents c (Ok job) (Ok h.job) told means in
    let jobs : h.job ≡ job = cc in
    inr (h.status_is ∙ ap job_status jobs, subst (λ j. Got old new (job_written j)) jobs h.written)

-- a file that breaks a rule is not run
pub not_run : {A : Type 0} (contents : List ℕ → Option (List ℕ)) (words : List (List ℕ)) (status : ℕ) (old new : Option (List ℕ)) (before after : ℕ) (c : Command) (rule : Rule) → Accepts words c → IsTold contents c (Err rule) → HasRun contents words status old new before after → A
not_run contents words status old new before after c rule accepts told h =
    let same : h.command ≡ c = accepted_same words h.command c h.is_job.accepts accepts in
    let means : Means contents c (Ok h.job) = subst (λ d. Means contents d (Ok h.job)) same h.is_job.means in
    let equal : Ok h.job ≡ Err rule = meaning_same contents c (Err rule) (Ok h.job) told means in
    absurd (cc)

-- a file that means a job breaks no rule
pub not_broken : {A : Type 0} (contents : List ℕ → Option (List ℕ)) (words : List (List ℕ)) (c : Command) (job : Job) (rule : Rule) → Accepts words c → IsTold contents c (Ok job) → SomeFile words (λ command. Means contents command (Err rule)) → A
not_broken contents words c job rule accepts told (d, taken, m) =
    let same : d ≡ c = accepted_same words d c taken accepts in
    let equal : Err rule ≡ Ok job = meaning_same contents c (Ok job) (Err rule) told (subst (λ e. Means contents e (Err rule)) same m) in
    absurd (cc)

-- a file that breaks a rule breaks that one
pub rule_same : (contents : List ℕ → Option (List ℕ)) (words : List (List ℕ)) (c : Command) (rule other : Rule) → Accepts words c → IsTold contents c (Err rule) → SomeFile words (λ command. Means contents command (Err other)) → other ≡ rule
rule_same contents words c rule other accepts told (d, taken, m) =
    let same : d ≡ c = accepted_same words d c taken accepts in
    let equal : Err other ≡ Err rule = meaning_same contents c (Err rule) (Err other) told (subst (λ e. Means contents e (Err other)) same m) in
    cc

-- a reading that failed is that of a file of the command
pub not_failed : {A : Type 0} (words : List (List ℕ)) (contents : List ℕ → Option (List ℕ)) (first last : List ℕ → ℕ) (name : List ℕ) (c : Command) → Accepts words c → (SomeReadFailed contents first last c → ⊥) → SomeFile words (λ command. ReadFailed contents first last command name) → A
not_failed words contents first last name c accepts calm (d, taken, failed) =
    absurd (calm (name, subst (λ e. ReadFailed contents first last e name) (accepted_same words d c taken accepts) failed))

-- a detail leaves the budget as it is
detail_within : (d : Detail) (o : Options) → IfSome o.until (λ t. t.0 ≤ latest) → IfSome (with_detail o d).until (λ t. t.0 ≤ latest)
detail_within Trace o is = is
detail_within Stats o is = is
detail_within Dump o is = is

-- the budget that a command gives is one that files may have
within_from : (ss : List Setting) (before after : Options) → Lead before ss after → IfSome before.until (λ t. t.0 ≤ latest) → IfSome after.until (λ t. t.0 ≤ latest)
within_from [] before after e is = subst (λ (o : Options). IfSome o.until (λ t. t.0 ≤ latest)) e is
within_from (Until n ∷ ss) before after (free, near, lead) is = within_from ss (with_setting before (Until n)) after lead near
within_from (Shows d ∷ ss) before after (free, near, lead) is = within_from ss (with_detail before d) after lead (detail_within d before is)

pub accepted_within : (words : List (List ℕ)) (c : Command) → Accepts words c → IsWithin c
accepted_within words (commands.Ring r) (rest, e, (f, range)) = range
accepted_within words (commands.Check f) a = tt
accepted_within words (commands.Run f o) (rest, e, (more, g, file, (ss, h, lead))) = within_from ss no_options o lead tt
accepted_within words (commands.Slow f o) (rest, e, (more, g, file, (ss, h, lead))) = within_from ss no_options o lead tt
accepted_within words (commands.Show f at q) (rest, e, (g, file, within)) = within
accepted_within words (commands.Storm n) (rest, e, (f, few)) = few

-- accepted words are not refused
pub refused_none : {A : Type 0} (words : List (List ℕ)) (k : ℕ) (c : Command) → Accepts words c → RefusedAt words k → A
refused_none words k c accepts r = absurd (r.none (words, (c, accepts), refl))

-- a file that breaks a rule means no job
pub not_job : {A : Type 0} (contents : List ℕ → Option (List ℕ)) (words : List (List ℕ)) (fact : Command → Job → Type 0) (c : Command) (rule : Rule) → Accepts words c → IsTold contents c (Err rule) → SomeJob contents words fact → A
not_job contents words fact c rule accepts told (d, job, is, more) =
    let same : d ≡ c = accepted_same words d c is.accepts accepts in
    let equal : Ok job ≡ Err rule = meaning_same contents c (Err rule) (Ok job) told (subst (λ e. Means contents e (Ok job)) same is.means) in
    absurd (cc)
