-- A question that was found in a directory of a plan may be asked about it.
use Rattle.std.proofs.Common.{◌≡◌, ℕ, ◌<◌, List, length, refl, ap, ◌∙◌}
use Rattle.std.specs.Prelude.{Option, None, Some, IfOk}
use Rattle.tick_law.specs.PlanView.{PlanView}
use Rattle.part_kind.specs.declared.part.Part.{Part}
use Rattle.part_kind.specs.declared.link_kind.LinkKind.{LinkKind}
use Rattle.world_query.specs.Directory.{DirectoryView, number_of, number_in, field_number, IsDirectoryOf}
use Rattle.world_query.specs.Legend.{legend_of, IsQueryOf}
use Rattle.world_query.proofs.QueryLaws.{found_part, found_field, field_number-plan}
use Rattle.plan_show.specs.declared.question.Question.{Question}
use Rattle.plan_show.specs.declared.question.Question.TheVariants as questions
use Rattle.plan_show.specs.Question.{part_or_unknown, field_or_unknown, field_in, field_of_plan, asked, query_in}

abbrev pub Plan : Type 0
Plan = PlanView Part LinkKind

-- the part of a question
pub part_within : (plan : Plan) (d : DirectoryView) (name : List ℕ) (o : Option ℕ) → IsDirectoryOf plan d → number_in d.parts name ≡ o → IfOk (part_or_unknown o) (IsQueryOf (legend_of plan))
part_within plan d name None of e = tt
part_within plan d name (Some part) of e = found_part plan d name part of e

field_within : (plan : Plan) (d : DirectoryView) (part : ℕ) (field : List ℕ) (o : Option ℕ) → IsDirectoryOf plan d → part < length plan.part_names → field_number d part field ≡ o → IfOk (field_or_unknown part o) (IsQueryOf (legend_of plan))
field_within plan d part field None of within e = tt
field_within plan d part field (Some no_field) of within e = (within, found_field plan d part field no_field of e)

-- and the field
pub both_within : (plan : Plan) (d : DirectoryView) (name field : List ℕ) (o : Option ℕ) → IsDirectoryOf plan d → number_in d.parts name ≡ o → IfOk (field_in d o field) (IsQueryOf (legend_of plan))
both_within plan d name field None of e = tt
both_within plan d name field (Some part) of e = field_within plan d part field (field_number d part field) of (found_part plan d name part of e) refl

-- a field of a part that may be unknown is the same by a directory of a plan and by its names
field_same : (plan : Plan) (d : DirectoryView) (o : Option ℕ) (field : List ℕ) → IsDirectoryOf plan d → field_in d o field ≡ field_of_plan plan o field
field_same plan d None field of = refl
field_same plan d (Some part) field of = ap (field_or_unknown part) (field_number-plan plan d part field of)

-- and so is a question
pub asked-plan : (plan : Plan) (d : DirectoryView) (q : Question) → IsDirectoryOf plan d → asked d q ≡ query_in plan q
asked-plan plan d questions.Now of = refl
asked-plan plan d questions.Parts of = refl
asked-plan plan d (questions.Part name) of = ap part_or_unknown (ap (λ f. f name) of.parts)
asked-plan plan d (questions.Field name field) of = ap (λ o. field_in d o field) (ap (λ f. f name) of.parts) ∙ field_same plan d (number_of plan.part_names name) field of
asked-plan plan d questions.Buffers of = refl
asked-plan plan d questions.Progress of = refl
asked-plan plan d questions.Stuck of = refl
