use Rattle.std.proofs.Common.{◌≡◌, ◌++◌, [], Some, ap, arith, sym, ◌∙◌}
use Rattle.std.specs.Prelude.{filter, slice_get}
use Rattle.addr_map.specs.declared.range.Range.{Range}
use Rattle.plan_check.specs.Caches.{is_top, unseen}
use Rattle.plan_check.proofs.CacheLemmas.{added_behind, filter_next_all}
use Rattle.plan_check.proofs.Places.{some_at}
use Rattle.plan_check.proofs.caches.tops_of.Goals as goal

pub loop-range-preserved : goal.loop-range-preserved
loop-range-preserved c =
    let test = is_top c.args.caches.now in
    let ranges = c.args.ranges.now in
    let n = c.loop-range.range-index in
    let range = c.range-item.result in
    let there : slice_get ranges n ≡ Some range = some_at ranges n range (omega arith) ∙ ap (λ r. Some r) (sym c.range-item.is) in
    let added = c.in_ok-add_tops.ensures ∙ ap (λ xs. c.loop-range.tops.items ++ unseen c.loop-range.tops.items (filter test xs)) c.items.ensures in
    added_behind [] _ (filter test range.to) c.loop-range.tops.items c.add_tops.new.tops.items c.loop-range.invariant added
    ∙ ap (unseen []) (sym (filter_next_all test (λ (r : Range). r.to) ranges n range there))
