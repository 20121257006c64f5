use Rattle.std.specs.Prelude.{List, AllPairs}
use Rattle.std.proofs.Common.{subst, sym}
use Rattle.addr_map.specs.Range.{Apart}
use Rattle.addr_map.specs.declared.range.Range.{Range}
use Rattle.cache_comp.proofs.cache.Cache.open.Goals as goal

pub open-requires-clause-apart : goal.open-requires-clause-apart
open-requires-clause-apart c = subst (λ (ranges : List Range). AllPairs Apart ranges) (sym c.items.ensures) c.requires.apart
