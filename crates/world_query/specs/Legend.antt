-- What is needed of a plan to show its worlds, and which questions and worlds are of it.
use Rattle.std.specs.Prelude.{◌≡◌, ℕ, ◌<◌, List, [], ◌∷◌, ◌++◌, length, map, slice_index_or}
use Rattle.port_msg.specs.PortView.{PortView}
use Rattle.tick_law.specs.PlanView.{PlanView}
use Rattle.tick_law.specs.SerialLoop.{WorldState}
use Rattle.tick_law.specs.declared.port_plan.PortPlan.{PortPlan}
use Rattle.world_query.specs.declared.query.Query.{Query}
use Rattle.world_query.specs.declared.query.Query.TheVariants.{Now, Parts, Part, Field, Buffers, Progress, Stuck}

-- a port as it is shown: its name `PART.PORT`, and the capacity of each of its lists
pub record PortLabel : Type 0 where
  pub name : List ℕ
  pub cap : ℕ

-- the names of the parts, the names of the fields of each part, and a label for each port, in the order of the numbers
pub record Legend : Type 0 where
  pub part_names : List (List ℕ)
  pub fields : List (List (List ℕ))
  pub ports : List PortLabel

-- the names of the fields of a part
abbrev pub fields_of : Legend → ℕ → List (List ℕ)
fields_of legend part = slice_index_or legend.fields part []

-- the name of the part, a full stop, and the word of the port there
abbrev pub port_label : List (List ℕ) → PortPlan → PortLabel
port_label part_names p = record { name = slice_index_or part_names p.part.0 [] ++ 46 ∷ p.word; cap = p.cap }

-- the legend of a plan
abbrev pub legend_of : {P N : Type 0} → PlanView P N → Legend
legend_of plan = record { part_names = plan.part_names; fields = plan.fields; ports = map (port_label plan.part_names) plan.ports }

-- the numbers of a query are those of parts and fields of a plan
abbrev pub IsQueryOf : Legend → Query → Type 0
IsQueryOf legend Now = Unit {0}
IsQueryOf legend Parts = Unit {0}
IsQueryOf legend (Part part) = part.0 < length legend.part_names
IsQueryOf legend (Field part field) = (part.0 < length legend.part_names) × (field.0 < length (fields_of legend part.0))
IsQueryOf legend Buffers = Unit {0}
IsQueryOf legend Progress = Unit {0}
IsQueryOf legend Stuck = Unit {0}

-- a world has the parts of a plan, and its ports with their capacities
pub record IsWorldOf {P N : Type 0} (legend : Legend) (w : WorldState P N) : Type 0 where
  pub parts : length w.parts ≡ length legend.part_names
  pub caps : map (λ (p : PortView). p.cap) w.ports ≡ map (λ (l : PortLabel). l.cap) legend.ports
