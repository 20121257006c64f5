use Rattle.std.proofs.Common.{◌≡◌, length, map, take}
use Rattle.world_query.specs.Directory.{number_of, number_in}
use Rattle.world_query.proofs.directory.field_tables.Given as goal

abbrev pub invariant-loop-names : goal.invariant-loop-names
invariant-loop-names l = record {
  tables : map number_in l.tables.items ≡ map (λ names. number_of names.items) (take l.names-index l.fields);
  long : length l.tables.items ≡ l.names-index;
}
