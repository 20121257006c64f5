use Rattle.std.proofs.Common.{◌≡◌, true, false, ap, sym, ◌∙◌}
use Rattle.toml.proofs.Views.{view-Array}
use Rattle.toml.specs.Data.{array}
use Rattle.toml.specs.View.{view, items_view}
use Rattle.sim_config.specs.Keys.{allows}
use Rattle.sim_config.specs.Values.{item_count, some_wrong_type, table_in}
use Rattle.sim_config.proofs.ItemLaws.{list_in-tables}
use Rattle.sim_config.proofs.table_reader.tables_in.Goals as goal

pub returns-then-has_length-clause-ok : goal.returns-then-has_length-clause-ok
returns-then-has_length-clause-ok c =
    let ds = items_view c.as_slice-values.result.now in
    let seen = ap view c.in-Array.is ∙ view-Array c.in-Array.values ∙ ap (λ vs. array (items_view vs)) (sym c.as_slice-values.ensures.value) in
    let types : some_wrong_type table_in ds ≡ false = cc in
    let count : allows c.args.lengths.now (item_count ds) ≡ true = cc in
    rw seen (list_in-tables c.args.lengths.now ds types count)
