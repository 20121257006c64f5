use Rattle.std.proofs.Common.{◌≡◌, [], take}
use Rattle.std.specs.Prelude.{filter, flat_map}
use Rattle.addr_map.specs.declared.range.Range.{Range}
use Rattle.plan_check.specs.Caches.{is_top, unseen}
use Rattle.plan_check.proofs.caches.tops_of.Given as goal

abbrev pub invariant-loop-range : goal.invariant-loop-range
invariant-loop-range l = l.tops.items ≡ unseen [] (filter (is_top l.caches) (flat_map (λ (r : Range). r.to) (take l.range-index l.ranges)))
