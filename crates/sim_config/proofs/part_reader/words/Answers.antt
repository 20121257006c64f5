use Rattle.std.proofs.Common.{subst}
use Rattle.toml.specs.View.{table_view}
use Rattle.sim_config.specs.Keys
use Rattle.sim_config.specs.Values.{Gives, list_at, number_in}
use Rattle.sim_config.proofs.part_reader.words.Goals as goal

-- the list is that of the key with its greatest length
pub returns-clause-meaning : goal.returns-clause-meaning
returns-clause-meaning c =
    let P : Keys.ListRow → Type 0 = λ row. Gives c.optional_list.result (list_at (number_in Keys.word_values) c.args.section.now.place row (table_view c.args.section.now.table.now)) in
    subst P c.no_longer_than.ensures c.optional_list.ensures.meaning
