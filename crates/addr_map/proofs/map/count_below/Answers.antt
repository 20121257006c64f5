-- What the search for the last start at or below the address ensures.
use Rattle.std.proofs.Common.{leb, rules, arith}
use Rattle.std.proofs.lemmas.Bool.{leb-true, leb-false}
use Rattle.std.proofs.lemmas.List.Sorted.{IsPartitionPoint-from_clause, IsPartitionedBy-leb}
use Rattle.addr_map.proofs.map.count_below.Goals as goal

pub returns : goal.returns
returns c =
    let parted = IsPartitionedBy-leb (λ s. s.base) c.args.starts.now c.args.addr c.requires in
    let point = IsPartitionPoint-from_clause (λ s. leb s.base c.args.addr) _ _ c.partition_point.ensures.partitioned parted (λ a r q k. search rules) in
    record {
      bound = c.partition_point.ensures.bound;
      first = λ k d below. leb-true _ _ (point.0 k d (omega arith) below);
      others = λ k d above within. leb-false _ _ (point.1 k d above within);
    }
