-- What the report of a plan needs of its world.
use Rattle.std.proofs.Common.{◌≡◌, ℕ, zero, suc, List, length, refl, sym, ◌∙◌, ap, subst}
use Rattle.tick_law.specs.SerialLoop.{System, WorldState, world_at}
use Rattle.tick_law.specs.PlanView.{PlanView}
use Rattle.tick_law.specs.declared.verdict.Verdict.{Verdict}
use Rattle.std.specs.Prelude.{Bool, true, false, Option, Some, None, option_map, IfSome, replicate}
use Rattle.trace_out.specs.Names.{NamesView}
use Rattle.state_view.specs.Report.{report_of}
use Rattle.state_view.specs.declared.run_end.RunEnd.{RunEnd}
use Rattle.std.proofs.lemmas.List.{length-replicate}
use Rattle.model_laws.proofs.OneMoreActor.{length-map_index}
use Rattle.part_kind.specs.declared.part.Part.{Part}
use Rattle.part_kind.specs.declared.link_kind.LinkKind.{LinkKind}
use Rattle.port_msg.specs.declared.records.Record.{Record}
use Rattle.task_stats.specs.Tasks.{TasksView, no_tasks, after_records}
use Rattle.task_stats.proofs.Lengths.{length-after_records}
use Rattle.run_gear.specs.Counted.{counted_with}
use Rattle.top_run.specs.Top.{loop_of, no_counts}

-- no part and no link comes or goes
parts_stay : {P N : Type 0} (r : System P N) (t : ℕ) → length (world_at r t).parts ≡ length r.start.world.parts
parts_stay r zero = refl
parts_stay r (suc t) = length-map_index _ 0 (world_at r t).parts ∙ parts_stay r t

links_stay : {P N : Type 0} (r : System P N) (t : ℕ) → length (world_at r t).links ≡ length r.start.world.links
links_stay r zero = refl
links_stay r (suc t) = length-map_index _ 0 (world_at r t).links ∙ links_stay r t

-- each part of a world has a name
pub part_count : (plan : PlanView Part LinkKind) (t : ℕ) (w : WorldState Part LinkKind) (names : List (List ℕ)) → names ≡ plan.part_names → w ≡ world_at (loop_of plan) t → length plan.part_names ≡ length plan.parts → length names ≡ length w.parts
part_count plan t w names e is count =
    ap length e ∙ count ∙ sym (parts_stay (loop_of plan) t) ∙ sym (ap (λ (v : WorldState Part LinkKind). length v.parts) is)

-- and so has each link
pub link_count : (plan : PlanView Part LinkKind) (t : ℕ) (w : WorldState Part LinkKind) (names : List (List ℕ)) → names ≡ plan.link_names → w ≡ world_at (loop_of plan) t → length plan.link_names ≡ length plan.links → length names ≡ length w.links
link_count plan t w names e is count =
    ap length e ∙ count ∙ sym (links_stay (loop_of plan) t) ∙ sym (ap (λ (v : WorldState Part LinkKind). length v.links) is)

abbrev pub end_of : ℕ → Verdict → ℕ → RunEnd
end_of budget verdict end = record { budget = record { 0 = budget }; verdict = verdict; end = record { 0 = end } }

-- a report of the same things is the same
pub report_same : (a b : NamesView) (budget : ℕ) (v w : WorldState Part LinkKind) (x y : Verdict) (e f : ℕ) (k l : Option (List TasksView)) (dump : Bool) → a ≡ b → v ≡ w → x ≡ y → e ≡ f → k ≡ l → report_of a v (end_of budget x e) k dump ≡ report_of b w (end_of budget y f) l dump
report_same a b budget v w x y e f k l dump names world verdict end counts =
    ap (λ z. report_of z v (end_of budget x e) k dump) names
    ∙ ap (λ z. report_of b z (end_of budget x e) k dump) world
    ∙ ap (λ z. report_of b w (end_of budget z e) k dump) verdict
    ∙ ap (λ z. report_of b w (end_of budget y z) k dump) end
    ∙ ap (λ z. report_of b w (end_of budget y f) z dump) counts

-- each part has its counts, where there are some
pub count_each : (counted : Bool) (parts most : ℕ) (recs : List Record) (counts : Option (List TasksView)) → counts ≡ counted_with (no_counts counted parts) recs → parts ≡ most → IfSome counts (λ tasks. length tasks ≡ most)
count_each true parts most recs counts is same =
    let long : length (after_records (replicate parts no_tasks) recs) ≡ most = length-after_records recs (replicate parts no_tasks) ∙ length-replicate parts no_tasks ∙ same in
    subst (λ (o : Option (List TasksView)). IfSome o (λ tasks. length tasks ≡ most)) (sym is) long
count_each false parts most recs counts is same = subst (λ (o : Option (List TasksView)). IfSome o (λ tasks. length tasks ≡ most)) (sym is) tt

-- what is true of the item of an option is true of what it lends
pub each_lent : {A B : Type 0} (f : B → A) (P : A → Type 0) (o : Option B) (k : Option A) → option_map f o ≡ k → IfSome k P → IfSome o (λ x. P (f x))
each_lent f P None k e h = tt
each_lent f P (Some x) k e h = subst (λ k. IfSome k P) (sym e) h
