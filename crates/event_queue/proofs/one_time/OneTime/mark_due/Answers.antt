use Rattle.std.proofs.Common.{◌+◌, ap, sym, ◌∙◌, arith}
use Rattle.event_queue.specs.NextTimes.{time_of}
use Rattle.event_queue.proofs.OneTimeLemmas.{none_due_other}
use Rattle.event_queue.proofs.JoinLemmas.{join_kept, found_in, marked_in}
use Rattle.event_queue.proofs.one_time.OneTime.mark_due.Goals as goal

pub returns-then-self-t-clause-marked : goal.returns-then-self-t-clause-marked
returns-then-self-t-clause-marked c = λ i b e.
    absurd (none_due_other c.self.inside.time c.args.t c.self.inside.actors 0 (c.args.from.0 + i + 1) (λ f. c.if-self-t.true (sym f)) (c.args.from.0 + i) (omega arith) (omega arith) (ap (λ l. time_of l (c.args.from.0 + i)) c.self.view_is ∙ e))

pub returns-clause-kept : goal.returns-clause-kept
returns-clause-kept c = λ i h. join_kept _ _ _ _ c.join.ensures.joined i h

pub returns-clause-found : goal.returns-clause-found
returns-clause-found c = λ i h. found_in _ c.self.inside.time c.args.t _ _ _ _ c.join.ensures.long c.join.ensures.joined c.self.view_is c.if-self-t.false i h

pub returns-clause-marked : goal.returns-clause-marked
returns-clause-marked c = λ i b e. marked_in _ c.self.inside.time c.args.t _ _ _ _ c.join.ensures.joined c.self.view_is i b e
