use Rattle.std.proofs.Common.{◌≡◌, ◌++◌, take}
use Rattle.std.specs.Prelude.{filter}
use Rattle.plan_check.specs.Caches.{is_top, unseen}
use Rattle.plan_check.proofs.caches.add_tops.Given as goal

abbrev pub invariant-loop-target : goal.invariant-loop-target
invariant-loop-target l = l.tops.items ≡ l.initial.tops.items ++ unseen l.initial.tops.items (filter (is_top l.caches) (take l.target-index l.targets))
