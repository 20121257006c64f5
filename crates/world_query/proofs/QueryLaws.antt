-- What was found in a directory of a plan may be asked about.
use Rattle.std.proofs.Common.{◌≡◌, ℕ, ◌<◌, List, [], ◌∷◌, length, map, get_or, Some, zero, suc, refl, sym, ap, ◌∙◌}
use Rattle.tick_law.specs.PlanView.{PlanView}
use Rattle.world_query.specs.Directory.{DirectoryView, number_of, number_in, field_number, IsDirectoryOf}
use Rattle.world_query.specs.Legend.{legend_of, fields_of}
use Rattle.world_query.proofs.NumberLaws.{number_of-within}

get_or-map : {A B : Type 0} (f : A → B) (xs : List A) (k : ℕ) (d : A) → get_or (map f xs) k (f d) ≡ f (get_or xs k d)
get_or-map f [] k d = refl
get_or-map f (x ∷ xs) zero d = refl
get_or-map f (x ∷ xs) (suc k) d = get_or-map f xs k d

module _ {P N : Type 0} where
  -- a part that was found is in the plan
  pub found_part : (plan : PlanView P N) (d : DirectoryView) (name : List ℕ) (part : ℕ) → IsDirectoryOf plan d → number_in d.parts name ≡ Some part → part < length plan.part_names
  found_part plan d name part of found = number_of-within plan.part_names name part (sym (ap (λ f. f name) of.parts) ∙ found)

  -- the number of a text among the fields of a part of the plan
  pub field_number-plan : (plan : PlanView P N) (d : DirectoryView) (part : ℕ) (name : List ℕ) → IsDirectoryOf plan d → field_number d part name ≡ number_of (fields_of (legend_of plan) part) name
  field_number-plan plan d part name of = ap (λ f. f name) (sym (get_or-map number_in d.fields part []) ∙ ap (λ fs. get_or fs part (number_in [])) of.fields ∙ get_or-map number_of plan.fields part [])

  -- a field that was found is one of that part
  pub found_field : (plan : PlanView P N) (d : DirectoryView) (part : ℕ) (name : List ℕ) (field : ℕ) → IsDirectoryOf plan d → field_number d part name ≡ Some field → field < length (fields_of (legend_of plan) part)
  found_field plan d part name field of found = number_of-within (fields_of (legend_of plan) part) name field (sym (field_number-plan plan d part name of) ∙ found)
