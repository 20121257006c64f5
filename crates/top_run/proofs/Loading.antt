-- What the reading of programs comes to, and that files which tell their contents leave no choice in it.
use Rattle.std.proofs.Common.{◌≡◌, ℕ, zero, suc, ◌<◌, ◌≤◌, List, [], ◌∷◌, ◌++◌, length, get_or, refl, sym, ap, ◌∙◌, subst, arith, inr}
use Rattle.std.specs.Prelude.{slice_get, All, Option, Some, None, IfSome, Result, Ok, Err}
use Rattle.std.proofs.Props.{props}
use Rattle.sim_config.specs.Tables.{PlanTables, ProgramTable}
use Rattle.sim_config.specs.Meaning.{config_of}
use Rattle.sim_config.specs.declared.fault.ConfigFault.{ConfigFault}
use Rattle.elf_load.specs.Image.{IsSound}
use Rattle.elf_load.specs.Rules as format
use Rattle.elf_load.specs.declared.rule.ElfRule.{ElfRule}
use Rattle.elf_load.specs.declared.segment.Segment.{Segment}
use Rattle.elf_load.specs.declared.image.Image.{Image}
use Rattle.top_run.specs.declared.program_breach.ProgramRule.{ProgramRule}
use Rattle.top_run.specs.declared.program_breach.ProgramRule.TheVariants.{Format}
use Rattle.top_run.specs.declared.program_breach.ProgramBreach.{ProgramBreach}
use Rattle.sim_base.specs.declared.time.Time.{Time}
use Rattle.top_run.specs.declared.command.Command.{Command}
use Rattle.top_run.specs.declared.command.Command.TheVariants as commands
use Rattle.top_run.specs.declared.machine.Machine.{Machine}
use Rattle.top_run.specs.declared.job.Job.{Job}
use Rattle.top_run.specs.declared.run.Engine.TheVariants.{Sleeping, Serial}
use Rattle.top_run.proofs.WordRefusals.{within}
use Rattle.top_run.specs.Job.{Rule, Config, AreOwn, AreTold, IsImageOf, machine_of_programs, run_with, checked, shown, done_with, IsProgramIn, AreLoaded, BreaksFormat, IsNext, AreRead, IsProgramName, MeansText, MeansFile, MeansJob, MeansCommand, IsNameOfText, IsNameOfFile}

-- a program's fields
abbrev Fields : Type 0
Fields = ℕ × List ℕ × List Segment

-- what a program keeps of them
abbrev Kept : Fields → Type 0
Kept f = (length f.1 ≤ 8388608) × All (IsSound (length f.1)) f.2

abbrev made : (f : Fields) → Kept f → Image
made f k = record { entry = f.0; file = f.1; segments = f.2; short = k.0; sound = k.1 }

Kept-prop : (f : Fields) → IsProp (Kept f)
Kept-prop f = hlevel props

made_same : (f g : Fields) (e : f ≡ g) (k : Kept f) (h : Kept g) → made f k ≡ made g h
made_same f g e k = let P : Fields → Type 0 = λ g. (h : Kept g) → made f k ≡ made g h in subst P e (λ h. ap (made f) (Kept-prop f k h))

-- programs with the same fields are one
same_image : (i j : Image) → i.entry ≡ j.entry → i.file ≡ j.file → i.segments ≡ j.segments → i ≡ j
same_image i j a b c = made_same (i.entry, i.file, i.segments) (j.entry, j.file, j.segments) (cc) (i.short, i.sound) (j.short, j.sound)

-- a file holds one program at most
image_same : (bytes : List ℕ) (i j : Image) → IsImageOf bytes i → IsImageOf bytes j → i ≡ j
image_same bytes i j a b = same_image i j (a.entry ∙ sym b.entry) (a.file ∙ sym b.file) (a.segments ∙ sym b.segments)

abbrev pub breach_of : ℕ → ProgramRule → ℕ → ProgramBreach
breach_of program rule at = record { program = program; rule = rule; at = at }

-- before any is read
pub none_loaded : (gives : List ℕ → List ℕ → Type 0) (tables : List ProgramTable) → AreLoaded gives tables []
none_loaded gives [] = tt
none_loaded gives (t ∷ ts) = tt

-- one program more
pub loaded_more : (gives : List ℕ → List ℕ → Type 0) (tables : List ProgramTable) (images : List Image) (table : ProgramTable) (image : Image) → AreLoaded gives tables images → slice_get tables (length images) ≡ Some table → IsProgramIn gives table.file image → AreLoaded gives tables (images ++ image ∷ [])
loaded_more gives [] [] table image loaded here is = absurd (cc)
loaded_more gives (t ∷ ts) [] table image loaded here is = (subst (λ (x : ProgramTable). IsProgramIn gives x.file image) (let same : table ≡ t = cc in same) is, tt)
loaded_more gives [] (i ∷ is) table image loaded here has = absurd loaded
loaded_more gives (t ∷ ts) (i ∷ is) table image (first, loaded) here has = (first, loaded_more gives ts is table image loaded here has)

pub item_at : {A : Type 0} (xs : List A) (k : ℕ) (d : A) → k < length xs → slice_get xs k ≡ Some (get_or xs k d)
item_at [] k d b = absurd (omega arith)
item_at (x ∷ xs) zero d b = refl
item_at (x ∷ xs) (suc k) d b = item_at xs k d (omega arith)

-- what files give that give all that others do
module _ (gives more : List ℕ → List ℕ → Type 0) (each : (name bytes : List ℕ) → gives name bytes → more name bytes) where
  pub program_more : (file : List ℕ) (image : Image) → IsProgramIn gives file image → IsProgramIn more file image
  program_more file image (bytes, given, is) = (bytes, each file bytes given, is)

  pub breaks_more : (file : List ℕ) (breach : ProgramBreach) → BreaksFormat gives file breach → BreaksFormat more file breach
  breaks_more file breach (bytes, given, is) = (bytes, each file bytes given, is)

  pub all_more : (tables : List ProgramTable) (images : List Image) → AreLoaded gives tables images → AreLoaded more tables images
  all_more tables [] loaded = tt
  all_more [] (i ∷ is) loaded = absurd loaded
  all_more (t ∷ ts) (i ∷ is) (first, loaded) = (program_more t.file i first, all_more ts is loaded)

  pub next_more : (tables : List ProgramTable) (before : List Image) (table : ProgramTable) → IsNext gives tables before table → IsNext more tables before table
  next_more tables before table next = record { loaded = all_more tables before next.loaded; here = next.here }

  pub read_more : (tables : List ProgramTable) (r : Result (List Image) ProgramBreach) → AreRead gives tables r → AreRead more tables r
  read_more tables (Ok images) (loaded, count) = (all_more tables images loaded, count)
  read_more tables (Err breach) (before, table, next, number, breaks) = (before, table, next_more tables before table next, number, breaks_more table.file breach breaks)

  pub name_more : (tables : List ProgramTable) (name : List ℕ) → IsProgramName gives tables name → IsProgramName more tables name
  name_more tables name (before, table, next, is) = (before, table, next_more tables before table next, is)

-- files whose contents stayed
pub own_from : (now old : List ℕ → Option (List ℕ)) → ((name : List ℕ) → now name ≡ old name) → (name bytes : List ℕ) → AreOwn now name bytes → AreOwn old name bytes
own_from now old stayed name bytes own = subst (λ o. IfSome o (λ own. bytes ≡ own)) (stayed name) own

-- no program behind one that breaks the format is loaded
not_past : (told given : List ℕ → List ℕ → Type 0) (same : (name a b : List ℕ) → told name a → given name b → a ≡ b) (tables : List ProgramTable) (before : List Image) (k : ℕ) (table : ProgramTable) (breach : ProgramBreach) → AreLoaded told tables before → slice_get tables k ≡ Some table → BreaksFormat given table.file breach → length before ≤ k
not_past told given same tables [] k table breach loaded here breaks = omega arith
not_past told given same [] (i ∷ is) k table breach loaded here breaks = absurd loaded
not_past told given same (t ∷ ts) (i ∷ is) zero table breach ((bytes, tells, image), _) here (others, gave, (rule, _, broken)) =
    let row : t ≡ table = cc in
    let equal : bytes ≡ others = same table.file bytes others (subst (λ (x : ProgramTable). told x.file bytes) row tells) gave in
    let none : format.first_broken others ≡ None = subst (λ b. format.first_broken b ≡ None) equal image.sound in
    absurd (cc)
not_past told given same (t ∷ ts) (i ∷ is) (suc k) table breach (_, loaded) here breaks = (let b = not_past told given same ts is k table breach loaded here breaks in omega (arith, b))

-- what two kinds of files give that give the same bytes
module _ (told given : List ℕ → List ℕ → Type 0) (same : (name a b : List ℕ) → told name a → given name b → a ≡ b) where
  program_same : (file : List ℕ) (i j : Image) → IsProgramIn told file i → IsProgramIn given file j → i ≡ j
  program_same file i j (a, tells, is) (b, gave, has) = image_same b i j (subst (λ bytes. IsImageOf bytes i) (same file a b tells gave) is) has

  loaded_same : (tables : List ProgramTable) (is js : List Image) → AreLoaded told tables is → AreLoaded given tables js → length is ≡ length js → is ≡ js
  loaded_same tables [] [] a b e = refl
  loaded_same tables [] (j ∷ js) a b e = absurd (omega (arith, e))
  loaded_same tables (i ∷ is) [] a b e = absurd (omega (arith, e))
  loaded_same [] (i ∷ is) (j ∷ js) a b e = absurd a
  loaded_same (t ∷ ts) (i ∷ is) (j ∷ js) (p, a) (q, b) e = (let first = program_same t.file i j p q in let rest = loaded_same ts is js a b (omega (arith, e)) in ap (λ x. x ∷ is) first ∙ ap (λ xs. j ∷ xs) rest)

  broken_same : (file : List ℕ) (x y : ProgramBreach) → BreaksFormat told file x → BreaksFormat given file y → x.program ≡ y.program → x ≡ y
  broken_same file x y (a, tells, (r, rule, first)) (b, gave, (s, other, second)) e =
      let equal : a ≡ b = same file a b tells gave in
      let here : ElfRule × ℕ = (r, x.at) in
      let there : ElfRule × ℕ = (s, y.at) in
      let both : Some here ≡ Some there = sym (subst (λ c. format.first_broken c ≡ Some here) equal first) ∙ second in
      let pair : here ≡ there = cc in
      let kinds : x.rule ≡ y.rule = rule ∙ ap (λ (p : ElfRule × ℕ). Format p.0) pair ∙ sym other in
      let places : x.at ≡ y.at = ap (λ (p : ElfRule × ℕ). p.1) pair in
      ap (λ n. breach_of n x.rule x.at) e ∙ ap (λ q. breach_of y.program q x.at) kinds ∙ ap (λ n. breach_of y.program y.rule n) places

  read_same : (tables : List ProgramTable) (x y : Result (List Image) ProgramBreach) → AreRead told tables x → AreRead given tables y → x ≡ y
  read_same tables (Ok is) (Ok js) (a, n) (b, m) = ap (λ l. Ok l) (loaded_same tables is js a b (n ∙ sym m))
  read_same tables (Ok is) (Err y) (a, n) (before, table, next, number, breaks) =
      let past = not_past told given same tables is (length before) table y a next.here breaks in
      let there = within tables (length before) table next.here in
      absurd (omega (arith, past, there, n))
  read_same tables (Err x) (Ok js) (before, table, next, number, breaks) (b, m) =
      let past = not_past given told (λ name u v g t. sym (same name v u t g)) tables js (length before) table x b next.here breaks in
      let there = within tables (length before) table next.here in
      absurd (omega (arith, past, there, m))
  read_same tables (Err x) (Err y) (before, table, next, number, breaks) (others, row, after, count, fails) =
      let p = not_past told given same tables before (length others) row y next.loaded after.here fails in
      let q = not_past given told (λ name u v g t. sym (same name v u t g)) tables others (length before) table x after.loaded next.here breaks in
      let place : length before ≡ length others = omega (arith, p, q) in
      let both : Some table ≡ Some row = sym next.here ∙ ap (slice_get tables) place ∙ after.here in
      let rows : table ≡ row = cc in
      ap (λ b. Err b) (broken_same row.file x y (subst (λ (t : ProgramTable). BreaksFormat told t.file x) rows breaks) fails (number ∙ place ∙ sym count))

  text_same : (until : Option Time) (text : Result PlanTables ConfigFault) (x y : Result Machine Rule) → MeansText told until text x → MeansText given until text y → x ≡ y
  text_same until (Ok text) x y (r, a, e) (s, b, f) = sym e ∙ ap (λ read. machine_of_programs read until text) (read_same text.programs r s a b) ∙ f
  text_same until (Err fault) x y e f = sym e ∙ f

  file_same : (until : Option Time) (file : List ℕ) (x y : Result Machine Rule) → MeansFile told until file x → MeansFile given until file y → x ≡ y
  file_same until file x y (a, tells, m) (b, gave, n) = text_same until (config_of b) x y (subst (λ bytes. MeansText told until (config_of bytes) x) (same file a b tells gave) m) n

  job_same : (work : Machine → Result Job Rule) (until : Option Time) (file : List ℕ) (x y : Result Job Rule) → MeansJob told work until file x → MeansJob given work until file y → x ≡ y
  job_same work until file x y (m, a, e) (n, b, f) = sym e ∙ ap (done_with work) (file_same until file m n a b) ∙ f

  pub command_same : (c : Command) (x y : Result Job Rule) → MeansCommand told c x → MeansCommand given c y → x ≡ y
  command_same (commands.Ring ring) x y a b = sym a ∙ b
  command_same (commands.Check file) x y a b = job_same checked None file x y a b
  command_same (commands.Run file options) x y a b = job_same (run_with Sleeping options) options.until file x y a b
  command_same (commands.Slow file options) x y a b = job_same (run_with Serial options) options.until file x y a b
  command_same (commands.Show file at question) x y a b = job_same (shown question) (Some at) file x y a b
  command_same (commands.Storm agents) x y a b = sym a ∙ b

-- what is told is what was given
pub told_own : (contents : List ℕ → Option (List ℕ)) (name a b : List ℕ) → AreTold contents name a → AreOwn contents name b → a ≡ b
told_own contents name a b tells own = sym (subst (λ o. IfSome o (λ own. b ≡ own)) tells own)

-- what a file means that gave a text, from what its programs came to
module _ (gives : List ℕ → List ℕ → Type 0) (until : Option Time) (file bytes : List ℕ) (given : gives file bytes) where
  pub file_means : (text : PlanTables) (read : Result (List Image) ProgramBreach) (meaning : Result Machine Rule) → config_of bytes ≡ Ok text → AreRead gives text.programs read → machine_of_programs read until text ≡ meaning → MeansFile gives until file meaning
  file_means text read meaning is a e = (bytes, given, subst (λ t. MeansText gives until t meaning) (sym is) (read, a, e))

  pub fault_means : (fault : ConfigFault) → config_of bytes ≡ Err fault → MeansFile gives until file (Err (Config fault))
  fault_means fault is = (bytes, given, subst (λ t. MeansText gives until t (Err (Config fault))) (sym is) refl)

  pub name_means : (text : PlanTables) (name : List ℕ) → config_of bytes ≡ Ok text → IsProgramName gives text.programs name → IsNameOfFile gives file name
  name_means text name is a = inr (bytes, given, subst (λ t. IsNameOfText gives t name) (sym is) a)

-- what is done with the machine of a file
module _ (gives : List ℕ → List ℕ → Type 0) (work : Machine → Result Job Rule) (until : Option Time) (file : List ℕ) where
  pub machine_means : (machine : Machine) (meaning : Result Job Rule) → MeansFile gives until file (Ok machine) → work machine ≡ meaning → MeansJob gives work until file meaning
  machine_means machine meaning is e = (Ok machine, is, e)

  pub rule_means : (rule : Rule) → MeansFile gives until file (Err rule) → MeansJob gives work until file (Err rule)
  rule_means rule is = (Err rule, is, refl)
