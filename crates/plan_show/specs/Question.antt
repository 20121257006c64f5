-- The query that a question is, where its machine has the names.
use Rattle.std.specs.Prelude.{ℕ, List, Option, None, Some, Result, Ok, Err}
use Rattle.world_query.specs.declared.query.Query.{Query}
use Rattle.world_query.specs.declared.query.Query.TheVariants as queries
use Rattle.world_query.specs.Directory.{DirectoryView, number_of, number_in, field_number}
use Rattle.world_query.specs.Legend.{fields_of, legend_of}
use Rattle.tick_law.specs.PlanView.{PlanView}
use Rattle.plan_show.specs.declared.question.Question.{Question}
use Rattle.plan_show.specs.declared.question.Question.TheVariants.{Now, Parts, Part, Field, Buffers, Progress, Stuck}
use Rattle.plan_show.specs.declared.question.Unknown.{Unknown}
use Rattle.plan_show.specs.declared.question.Unknown.TheVariants as unknown

-- the query about the part of a number, or that no part has the name
abbrev pub part_or_unknown : Option ℕ → Result Query Unknown
part_or_unknown None = Err unknown.Part
part_or_unknown (Some part) = Ok (queries.Part (record { 0 = part }))

-- the query about the field of a number, or that the part has no field of the name
abbrev pub field_or_unknown : ℕ → Option ℕ → Result Query Unknown
field_or_unknown part None = Err unknown.Field
field_or_unknown part (Some field) = Ok (queries.Field (record { 0 = part }) (record { 0 = field }))

abbrev pub part_asked : DirectoryView → List ℕ → Result Query Unknown
part_asked d name = part_or_unknown (number_in d.parts name)

abbrev pub field_in : DirectoryView → Option ℕ → List ℕ → Result Query Unknown
field_in d None field = Err unknown.Part
field_in d (Some part) field = field_or_unknown part (field_number d part field)

abbrev pub field_asked : DirectoryView → List ℕ → List ℕ → Result Query Unknown
field_asked d name field = field_in d (number_in d.parts name) field

abbrev pub asked : DirectoryView → Question → Result Query Unknown
asked d Now = Ok queries.Now
asked d Parts = Ok queries.Parts
asked d (Part name) = part_asked d name
asked d (Field name field) = field_asked d name field
asked d Buffers = Ok queries.Buffers
asked d Progress = Ok queries.Progress
asked d Stuck = Ok queries.Stuck

-- the same by the names of a plan: the query that a question is about its machine, or which name the machine does not have
abbrev pub field_of_plan : {P N : Type 0} → PlanView P N → Option ℕ → List ℕ → Result Query Unknown
field_of_plan plan None field = Err unknown.Part
field_of_plan plan (Some part) field = field_or_unknown part (number_of (fields_of (legend_of plan) part) field)

abbrev pub query_in : {P N : Type 0} → PlanView P N → Question → Result Query Unknown
query_in plan Now = Ok queries.Now
query_in plan Parts = Ok queries.Parts
query_in plan (Part name) = part_or_unknown (number_of plan.part_names name)
query_in plan (Field name field) = field_of_plan plan (number_of plan.part_names name) field
query_in plan Buffers = Ok queries.Buffers
query_in plan Progress = Ok queries.Progress
query_in plan Stuck = Ok queries.Stuck
