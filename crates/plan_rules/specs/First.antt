-- The first broken rule: the rules in their order, and for each the tables in their order.
use Rattle.std.specs.Prelude.{ℕ, List, [], ◌∷◌, ◌++◌, map, length, find, flat_map, Option, Some, None}
use Rattle.std.proofs.Common.{zero, suc}
use Rattle.sim_config.specs.Tables.{PlanTables}
use Rattle.sim_config.specs.declared.fault.TableNo.{TableNo}
use Rattle.sim_config.specs.declared.fault.TableNo.TheVariants.{Map, Range, Part, Link, Program}
use Rattle.plan_rules.specs.declared.rule.PlanRule.{PlanRule}
use Rattle.plan_rules.specs.declared.rule.TheConstants.{RULES}
use Rattle.plan_rules.specs.declared.breach.Breach.{Breach}
use Rattle.plan_rules.specs.declared.tables.Sort.{Sort}
use Rattle.plan_rules.specs.declared.tables.Sort.TheVariants as sorts
use Rattle.plan_rules.specs.Text.{ranges_at}
use Rattle.plan_rules.specs.Rules.{breaks}

-- 0, 1, .. up to and without n
abbrev pub up_to : ℕ → List ℕ
up_to zero = []
up_to (suc n) = up_to n ++ n ∷ []

-- the table of a sort that has a number
abbrev pub table_of : Sort → ℕ → TableNo
table_of sorts.Maps n = Map n
table_of (sorts.Ranges m) n = Range m n
table_of sorts.Parts n = Part n
table_of sorts.Links n = Link n
table_of sorts.Programs n = Program n

-- so many tables of a sort
abbrev pub tables_of : Sort → ℕ → List TableNo
tables_of sort count = map (table_of sort) (up_to count)

-- the ranges of the first so many maps
abbrev pub ranges_to : PlanTables → ℕ → List TableNo
ranges_to text count = flat_map (λ m. tables_of (sorts.Ranges m) (length (ranges_at text m))) (up_to count)

-- all tables: the maps, the ranges of each map, the parts, the links, the programs
unfoldable pub all_tables : PlanTables → List TableNo
all_tables text =
    tables_of sorts.Maps (length text.maps)
    ++ ranges_to text (length text.maps)
    ++ tables_of sorts.Parts (length text.parts)
    ++ tables_of sorts.Links (length text.links)
    ++ tables_of sorts.Programs (length text.programs)

-- the first table that breaks a rule
abbrev pub first_table : PlanTables → PlanRule → Option TableNo
first_table text rule = find (breaks text rule) (all_tables text)

-- what a rule tells where a table breaks it, and what the later rules tell where none does
abbrev pub told_or : PlanRule → Option TableNo → Option Breach → Option Breach
told_or rule None later = later
told_or rule (Some table) later = Some (record { rule = rule; table = table })

-- the first of some rules that is broken, and the first table that breaks it
abbrev pub first_of : PlanTables → List PlanRule → Option Breach
first_of text [] = None
first_of text (rule ∷ rules) = told_or rule (first_table text rule) (first_of text rules)

-- the first broken rule of a text
unfoldable pub first_broken : PlanTables → Option Breach
first_broken text = first_of text RULES
