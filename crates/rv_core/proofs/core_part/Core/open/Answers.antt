use Rattle.std.specs.Prelude.{List, All, AllPairs}
use Rattle.std.proofs.Common.{subst, sym}
use Rattle.addr_map.specs.Range.{IsRange, Apart}
use Rattle.addr_map.specs.declared.range.Range.{Range}
use Rattle.rv_core.proofs.core_part.Core.open.Goals as goal

pub open-requires-clause-apart : goal.open-requires-clause-apart
open-requires-clause-apart c = subst (λ (ranges : List Range). AllPairs Apart ranges) (sym c.items.ensures) c.requires.inst_apart

pub open-requires-2-clause-shape : goal.open-requires-2-clause-shape
open-requires-2-clause-shape c = subst (λ (ranges : List Range). All IsRange ranges) (sym c.items-2.ensures) c.requires.data_shape

pub open-requires-2-clause-apart : goal.open-requires-2-clause-apart
open-requires-2-clause-apart c = subst (λ (ranges : List Range). AllPairs Apart ranges) (sym c.items-2.ensures) c.requires.data_apart
