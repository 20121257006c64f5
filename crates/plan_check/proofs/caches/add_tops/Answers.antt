use Rattle.std.proofs.Common.{◌≡◌, ◌++◌, ◌∷◌, [], Some, ap, arith, sym, ◌∙◌}
use Rattle.std.specs.Prelude.{filter, slice_get, slice_index_or}
use Rattle.sim_base.specs.declared.numbers.PortNo.{PortNo}
use Rattle.plan_check.specs.Caches.{is_top, unseen}
use Rattle.plan_check.proofs.CacheLemmas.{added_behind, filter_next}
use Rattle.plan_check.proofs.Places.{some_at}
use Rattle.plan_check.proofs.caches.add_tops.Goals as goal

pub loop-target-preserved : goal.loop-target-preserved
loop-target-preserved c =
    let old = c.args.tops.now.items in
    let targets = c.args.targets.now in
    let n = c.loop-target.target-index in
    let blank : PortNo = record { 0 = 0 } in
    let port = slice_index_or targets n blank in
    let there : slice_get targets n ≡ Some port = some_at targets n blank (omega arith) in
    added_behind old _ (filter (is_top c.args.caches.now) (port ∷ [])) c.loop-target.tops.items c.add_top.new.tops.items c.loop-target.invariant c.in_ok-add_top.ensures
    ∙ ap (λ xs. old ++ unseen old xs) (sym (filter_next (is_top c.args.caches.now) targets n port there))
