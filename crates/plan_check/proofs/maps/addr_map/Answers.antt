use Rattle.std.proofs.Common.{sym, subst}
use Rattle.std.specs.Prelude.{AllPairs}
use Rattle.addr_map.specs.Range.{Apart}
use Rattle.plan_check.proofs.maps.addr_map.Goals as goal

pub open-requires-clause-apart : goal.open-requires-clause-apart
open-requires-clause-apart c = subst (AllPairs Apart) (sym c.items.ensures) c.in_ok-ranges.ensures.apart
