use Rattle.std.proofs.Common.{◌≡◌, false, drop, length}
use Rattle.toml.specs.View.{items_view}
use Rattle.sim_config.specs.Values.{some_wrong_type, table_in, tables_of}
use Rattle.sim_config.specs.Meaning.{each}
use Rattle.sim_config.proofs.Fronts.{with_front}
use Rattle.sim_config.proofs.table_reader.each.Given as goal

-- what has been read, and the rest, are the whole
abbrev pub invariant-loop-index : goal.invariant-loop-index
invariant-loop-index g l =
    let read = g.R.TableReader.text_at l.reader in
    record {
      tables : some_wrong_type table_in (items_view (drop l.index l.values)) ≡ false;
      count : length l.texts.items ≡ l.index;
      whole : with_front l.texts.items (each read l.index (tables_of (items_view (drop l.index l.values))))
          ≡ each read 0 (tables_of (items_view l.values));
    }
