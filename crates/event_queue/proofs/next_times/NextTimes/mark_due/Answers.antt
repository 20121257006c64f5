use Rattle.std.proofs.Common.{◌+◌, inl, inr, ap, sym, ◌∙◌, arith}
use Rattle.event_queue.specs.NextTimes.{time_of}
use Rattle.event_queue.proofs.MergedLemmas.{merged-one, merged-other, either_of, count_other}
use Rattle.event_queue.proofs.next_times.NextTimes.mark_due.Goals as goal

pub returns-clause-only : goal.returns-clause-only
returns-clause-only g c = λ i h. elim (c.mark_due.ensures.found i h) [
  | inl k ↦ sym (ap (λ l. time_of l (c.args.from.0 + i)) c.self.view_is) ∙ merged-one _ _ c.self.invariant (c.args.from.0 + i) c.args.t (c.take_due.ensures.only i k)
  | inr e ↦ sym (ap (λ l. time_of l (c.args.from.0 + i)) c.self.view_is) ∙ merged-other _ _ c.self.invariant (c.args.from.0 + i) c.args.t e
]

pub returns-clause-marked : goal.returns-clause-marked
returns-clause-marked g c = λ i b e. elim (either_of _ _ _ c.self.invariant c.self.view_is c.args.t (c.args.from.0 + i) e) [
  | inl f ↦ c.mark_due.ensures.kept i (c.take_due.ensures.marked i b f)
  | inr f ↦ c.mark_due.ensures.marked i (omega (arith, b, c.take_due.ensures.long)) f
]

pub returns-clause-cost : goal.returns-clause-cost
returns-clause-cost g c = rw (← c.self.view_is) (omega (arith, count_other _ _ c.self.invariant c.args.t, c.mark_due.ensures.cost))
