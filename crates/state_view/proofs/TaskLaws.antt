-- The lines of one part's tasks more.
use Rattle.std.proofs.Common.{◌≡◌, ℕ, ◌+◌, ◌<◌, List, [], ◌∷◌, ◌++◌, length, take, zero, suc, refl, sym, ◌∙◌, ap, append_assoc, append-nil, add-one, subst, arith}
use Rattle.std.specs.Prelude.{Some, slice_get, slice_index_or}
use Rattle.std.proofs.lemmas.Option.{slice_get_read}
use Rattle.part_kind.specs.declared.part.Part.{Part}
use Rattle.task_stats.specs.Tasks.{TasksView, tasks_at, count_of}
use Rattle.task_stats.specs.declared.stats.TaskCount.{TaskCount}
use Rattle.state_view.specs.Report.{has_tasks, task_line_if, task_lines}

some_is : {A : Type 0} (x y : A) → Some x ≡ Some y → x ≡ y
some_is x y e = cc

tasks_more : (names : List (List ℕ)) (parts : List Part) (tasks : List TasksView) (k : ℕ) (name : List ℕ) (part : Part) → slice_get names k ≡ Some name → slice_get parts k ≡ Some part → k < length tasks → task_lines (take (suc k) names) (take (suc k) parts) (take (suc k) tasks) ≡ task_lines (take k names) (take k parts) (take k tasks) ++ task_line_if (has_tasks part) name (count_of (tasks_at tasks k))
tasks_more [] parts tasks k name part e f b = absurd (cc)
tasks_more (n ∷ ns) [] tasks k name part e f b = absurd (cc)
tasks_more (n ∷ ns) (p ∷ ps) [] k name part e f b = absurd (omega (arith, b))
tasks_more (n ∷ ns) (p ∷ ps) (t ∷ ts) zero name part e f b =
    append-nil (task_line_if (has_tasks p) n (count_of t))
    ∙ ap (λ x. task_line_if (has_tasks p) x (count_of t)) (some_is n name e)
    ∙ ap (λ x. task_line_if (has_tasks x) name (count_of t)) (some_is p part f)
tasks_more (n ∷ ns) (p ∷ ps) (t ∷ ts) (suc k) name part e f b =
    ap (λ l. task_line_if (has_tasks p) n (count_of t) ++ l) (tasks_more ns ps ts k name part e f (omega (arith, b)))
    ∙ sym (append_assoc (task_line_if (has_tasks p) n (count_of t)) (task_lines (take k ns) (take k ps) (take k ts)) (task_line_if (has_tasks part) name (count_of (tasks_at ts k))))

-- a text of the tasks of the first k parts, and the line of the part of number k behind it
pub one_task_more : (names : List (List ℕ)) (parts : List Part) (tasks : List TasksView) (k : ℕ) (name : List ℕ) (part : Part) (count : TaskCount) (start before after : List ℕ) → k < length parts → length names ≡ length parts → length tasks ≡ length parts → name ≡ slice_index_or names k name → part ≡ slice_index_or parts k part → count ≡ count_of (tasks_at tasks k) → before ≡ start ++ task_lines (take k names) (take k parts) (take k tasks) → after ≡ before ++ task_line_if (has_tasks part) name count → after ≡ start ++ task_lines (take (k + 1) names) (take (k + 1) parts) (take (k + 1) tasks)
one_task_more names parts tasks k name part count start before after b l m n p is g h =
    h ∙ ap (λ x. before ++ task_line_if (has_tasks part) name x) is
    ∙ ap (λ x. x ++ task_line_if (has_tasks part) name (count_of (tasks_at tasks k))) g
    ∙ append_assoc start (task_lines (take k names) (take k parts) (take k tasks)) (task_line_if (has_tasks part) name (count_of (tasks_at tasks k)))
    ∙ ap (λ x. start ++ x) (sym (tasks_more names parts tasks k name part (slice_get_read names (length parts) k name (sym l) b n) (slice_get_read parts (length parts) k part refl b p) (omega (arith, b, m)))
    ∙ ap (λ j. task_lines (take j names) (take j parts) (take j tasks)) (sym (add-one k)))
