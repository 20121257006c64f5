use Rattle.std.proofs.Common.{◌+◌, inl, inr, ap, sym, ◌∙◌, arith, refl}
use Rattle.event_queue.specs.NextTimes.{time_of}
use Rattle.event_queue.proofs.MergedLemmas.{merged-one, merged-other, either_of}
use Rattle.event_queue.proofs.two_times.TwoTimes.take_due.Goals as goal

pub returns-then-not-has_time-clause-only : goal.returns-then-not-has_time-clause-only
returns-then-not-has_time-clause-only c = λ i h.
    sym (ap (λ l. time_of l (c.args.from.0 + i)) c.self.view_is) ∙ merged-other _ _ c.self.invariant (c.args.from.0 + i) c.args.t (c.take_due.ensures.only i h)

pub returns-then-not-has_time-clause-marked : goal.returns-then-not-has_time-clause-marked
returns-then-not-has_time-clause-marked c = λ i b e. elim (either_of _ _ _ c.self.invariant c.self.view_is c.args.t (c.args.from.0 + i) e) [
  | inl f ↦ absurd (c.if-not-has_time.ensures refl (c.args.from.0 + i) f)
  | inr f ↦ c.take_due.ensures.marked i b f
]

pub returns-clause-only : goal.returns-clause-only
returns-clause-only c = λ i h. elim (c.mark_due.ensures.found i h) [
  | inl k ↦ sym (ap (λ l. time_of l (c.args.from.0 + i)) c.self.view_is) ∙ merged-one _ _ c.self.invariant (c.args.from.0 + i) c.args.t (c.take_due-2.ensures.only i k)
  | inr e ↦ sym (ap (λ l. time_of l (c.args.from.0 + i)) c.self.view_is) ∙ merged-other _ _ c.self.invariant (c.args.from.0 + i) c.args.t e
]

pub returns-clause-marked : goal.returns-clause-marked
returns-clause-marked c = λ i b e. elim (either_of _ _ _ c.self.invariant c.self.view_is c.args.t (c.args.from.0 + i) e) [
  | inl f ↦ c.mark_due.ensures.kept i (c.take_due-2.ensures.marked i b f)
  | inr f ↦ c.mark_due.ensures.marked i (omega (arith, b, c.take_due-2.ensures.long)) f
]
