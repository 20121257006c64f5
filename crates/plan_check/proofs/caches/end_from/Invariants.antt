use Rattle.std.proofs.Common.{◌≡◌, drop}
use Rattle.plan_check.specs.Caches.{end_from}
use Rattle.plan_check.proofs.caches.end_from.Given as goal

-- the caches from here on bring the address where all do
abbrev pub invariant-loop-cache : goal.invariant-loop-cache
invariant-loop-cache l = end_from (drop l.cache-index l.caches) l.addr l.end ≡ end_from l.caches l.addr l.fn.port
