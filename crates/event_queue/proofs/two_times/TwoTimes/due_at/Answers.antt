use Rattle.std.proofs.Common.{subst, arith}
use Rattle.event_queue.specs.NextTimes.{NoneDue, IsLeastDue}
use Rattle.event_queue.proofs.MergedLemmas.{none_due, due_one, due_other}
use Rattle.event_queue.proofs.two_times.TwoTimes.due_at.Goals as goal

pub returns-in-Some-due_at-clause-least : goal.returns-in-Some-due_at-clause-least
returns-in-Some-due_at-clause-least c =
    subst (λ l. IsLeastDue l c.args.t c.args.from.0 c.args.below.0 c.in-Some-due_at.less.0) c.self.view_is
    (due_other _ _ c.self.invariant c.args.t c.args.from.0 c.args.below.0 c.in-Some.who.0 c.in-Some-due_at.less.0 c.in-Some.ensures.least.least (omega (arith, c.in-Some.ensures.least.below_end)) c.in-Some-due_at.ensures.least)

pub returns-in-None-due_at-clause-least : goal.returns-in-None-due_at-clause-least
returns-in-None-due_at-clause-least c =
    subst (λ l. IsLeastDue l c.args.t c.args.from.0 c.args.below.0 c.in-Some.who.0) c.self.view_is
    (due_one _ _ c.self.invariant c.args.t c.args.from.0 c.args.below.0 c.in-Some.who.0 c.in-Some.ensures.least c.in-None-due_at.ensures.none)

pub returns-in-Some-due_at-2-clause-least : goal.returns-in-Some-due_at-2-clause-least
returns-in-Some-due_at-2-clause-least c =
    subst (λ l. IsLeastDue l c.args.t c.args.from.0 c.args.below.0 c.in-Some-due_at-2.who.0) c.self.view_is
    (due_other _ _ c.self.invariant c.args.t c.args.from.0 c.args.below.0 c.args.below.0 c.in-Some-due_at-2.who.0 c.in-None.ensures.none (omega arith) c.in-Some-due_at-2.ensures.least)

pub returns-in-None-due_at-2-clause-none : goal.returns-in-None-due_at-2-clause-none
returns-in-None-due_at-2-clause-none c =
    subst (λ l. NoneDue l c.args.t c.args.from.0 c.args.below.0) c.self.view_is
    (none_due _ _ c.self.invariant c.args.t c.args.from.0 c.args.below.0 c.in-None.ensures.none c.in-None-due_at-2.ensures.none)
