use Rattle.std.proofs.Common.{◌≡◌}
use Rattle.plan_check.specs.Caches.{caches_to}
use Rattle.plan_check.proofs.caches.cache_maps.Given as goal

abbrev pub invariant-loop-no : goal.invariant-loop-no
invariant-loop-no l = l.caches.items ≡ caches_to l.plan l.no
