-- The items that values stand for.
use Rattle.std.proofs.Common.{◌≡◌, true, false, List, [], ◌∷◌, length, Ok, refl, add-one}
use Rattle.toml.specs.Data.{Items, no_items, item, array, table}
use Rattle.toml.specs.declared.value.Value.{Value}
use Rattle.toml.specs.View.{items_view}
use Rattle.sim_config.specs.declared.keys.Allowed.{Allowed}
use Rattle.sim_config.specs.Keys.{allows}
use Rattle.sim_config.specs.Values.{list_in, item_count, some_wrong_type, elements, table_in, tables_of}

pub item_count-view : (vs : List Value) → item_count (items_view vs) ≡ length vs
item_count-view [] = refl
item_count-view (v ∷ vs) = rw (item_count-view vs, add-one)

-- where each item is a table, they are read as the tables that they are
pub elements-tables : (ds : Items) → some_wrong_type table_in ds ≡ false → elements table_in ds ≡ Ok (tables_of ds)
elements-tables no_items h = refl
elements-tables (item (table ms) ds) h = rw (elements-tables ds h)
elements-tables (item _ ds) h = absurd (cc)

-- a list of tables of an allowed length is read
pub list_in-tables : (lengths : Allowed) (ds : Items) → some_wrong_type table_in ds ≡ false → allows lengths (item_count ds) ≡ true → list_in table_in lengths (array ds) ≡ Ok (tables_of ds)
list_in-tables lengths ds types count = rw (types, count, elements-tables ds types)
