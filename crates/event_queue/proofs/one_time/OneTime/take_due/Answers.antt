use Rattle.std.proofs.Common.{◌+◌, length, ap, sym, ◌∙◌, arith}
use Rattle.std.proofs.lemmas.Bool.{false≢true}
use Rattle.bit_set.specs.Bits.{is_in}
use Rattle.event_queue.specs.NextTimes.{time_of}
use Rattle.event_queue.proofs.OneTimeLemmas.{none_due_other}
use Rattle.event_queue.proofs.MarkLemmas.{none_marked}
use Rattle.event_queue.proofs.JoinLemmas.{taken_only, taken_marked}
use Rattle.event_queue.proofs.one_time.OneTime.take_due.Goals as goal

pub returns-then-self-t-clause-marked : goal.returns-then-self-t-clause-marked
returns-then-self-t-clause-marked c = λ i b e.
    absurd (none_due_other c.self.inside.time c.args.t c.self.inside.actors 0 (c.args.from.0 + i + 1) (λ f. c.if-self-t.true (sym f)) (c.args.from.0 + i) (omega arith) (omega arith) (ap (λ l. time_of l (c.args.from.0 + i)) c.self.view_is ∙ e))

pub returns-then-self-t-clause-only : goal.returns-then-self-t-clause-only
returns-then-self-t-clause-only c = λ i h. absurd (false≢true (sym (none_marked (length c.args.due.now) i) ∙ sym (ap (λ l. is_in l i) c.clear.ensures) ∙ h))

pub returns-clause-marked : goal.returns-clause-marked
returns-clause-marked c = λ i b e. taken_marked _ c.self.inside.time c.args.t _ _ _ _ c.take.ensures.taken c.self.view_is i b e

pub returns-clause-only : goal.returns-clause-only
returns-clause-only c = λ i h. taken_only _ c.self.inside.time c.args.t _ _ _ _ c.take.ensures.long c.take.ensures.taken c.self.view_is c.if-self-t.false i h
