-- Which number a name has.
use Rattle.std.specs.Prelude.{◌≡◌, ℕ, ◌<◌, List, [], map, bytes_eq, slice_index_or, Option, Some}
use Rattle.std.specs.List.{position_from}
use Rattle.std.specs.Map.{lookup}
use Rattle.tick_law.specs.PlanView.{PlanView}

-- the number of the first of these names that is this text, counted from 0, or none where none is
abbrev pub number_of : List (List ℕ) → List ℕ → Option ℕ
number_of names text = position_from (λ name. bytes_eq text name) 0 names

-- what a directory has: the names of parts with their numbers, and for each part the names of its fields with theirs
pub record DirectoryView : Type 0 where
  pub parts : List (List ℕ × ℕ)
  pub fields : List (List (List ℕ × ℕ))

-- the number that stands at a text
abbrev pub number_in : List (List ℕ × ℕ) → List ℕ → Option ℕ
number_in entries text = lookup (λ name. bytes_eq text name) entries

-- the number of a text among the fields of a part
abbrev pub field_number : DirectoryView → ℕ → List ℕ → Option ℕ
field_number d part = number_in (slice_index_or d.fields part [])

-- no text has a number of this count or more
abbrev pub AreBelow : List (List ℕ × ℕ) → ℕ → Type 0
AreBelow entries count = (text : List ℕ) (k : ℕ) → number_in entries text ≡ Some k → k < count

-- a directory has the number of each text among the names of a plan's parts, and among those of each part's fields
pub record IsDirectoryOf {P N : Type 0} (plan : PlanView P N) (d : DirectoryView) : Type 0 where
  pub parts : number_in d.parts ≡ number_of plan.part_names
  pub fields : map number_in d.fields ≡ map number_of plan.fields
