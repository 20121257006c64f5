-- An empty row shows no time.
use Rattle.std.proofs.Common.{length, ap, arith}
use Rattle.event_queue.specs.KeyRow.{Row}
use Rattle.event_queue.proofs.TimesLemmas.{times_of-empty}
use Rattle.event_queue.proofs.time_heap.TimeHeap.open.Goals as goal

pub returns : goal.returns
returns c = times_of-empty _ _ _ (ap (λ (r : Row). length r.pairs) c.in_ok-open.ensures) (omega (arith, c.in_ok-vec.ensures.len, c.in_ok-vec.field-0.ok.0))
