use Rattle.std.proofs.Common.{◌≡◌, ℕ, ◌≤◌, List, length, drop, bytes_eq}
use Rattle.std.specs.List.{position_from}
use Rattle.world_query.specs.Directory.{number_in}
use Rattle.world_query.specs.Table.{entries_of}
use Rattle.world_query.proofs.name_table.NameTable.of.Given as goal

abbrev pub invariant-loop-left : goal.invariant-loop-left
invariant-loop-left l = record {
  within : l.left ≤ length l.names;
  numbered : (text : List ℕ) → number_in (entries_of l.numbers.entries) text ≡ position_from (λ name. bytes_eq text name) l.left (drop l.left l.names);
}

abbrev pub decreases-loop-left : goal.decreases-loop-left
decreases-loop-left l = l.left
