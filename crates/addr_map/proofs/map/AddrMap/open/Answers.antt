-- The copies are the ranges, and the sorted starts are theirs.
use Rattle.addr_map.proofs.MapLemmas.{HasStarts-in_order}
use Rattle.addr_map.proofs.map.AddrMap.open.Goals as goal

pub invariant_of-result : goal.invariant_of-result
invariant_of-result c =
    rw c.in_ok-copied.ensures (record {
      is_map = record { shape = c.requires.shape; apart = c.requires.apart };
      has_starts = c.sort.ensures.kept _ (HasStarts-in_order _ _ c.in_ok-starts.ensures);
      rising = c.sort.ensures.rising;
    })
