-- A sort only moves the starts.
use Rattle.std.proofs.Common.{rules}
use Rattle.std.proofs.lemmas.List.Sorted.{IsNonDecreasingBy-from_sort_by_key}
use Rattle.addr_map.proofs.MapLemmas.{HasStarts-permutation}
use Rattle.addr_map.proofs.map.sort.Goals as goal

pub returns : goal.returns
returns c = record {
  kept = λ ranges h. HasStarts-permutation ranges _ _ c.sort_unstable_by_key.ensures.permutation h;
  rising = IsNonDecreasingBy-from_sort_by_key (λ s. s.base) _ c.sort_unstable_by_key.ensures.sorted (λ a r q k. search rules);
}
