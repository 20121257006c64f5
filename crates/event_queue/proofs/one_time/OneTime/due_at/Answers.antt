use Rattle.std.proofs.Common.{subst, ap, sym, arith}
use Rattle.event_queue.specs.NextTimes.{NoneDue, IsLeastDue}
use Rattle.event_queue.proofs.OneTimeLemmas.{none_due_other, none_due_in, none_due_past, least_due_in}
use Rattle.event_queue.proofs.one_time.OneTime.due_at.Goals as goal

pub returns-then-self-t-clause-none : goal.returns-then-self-t-clause-none
returns-then-self-t-clause-none c =
    subst (λ l. NoneDue l c.args.t c.args.from.0 c.args.below.0) c.self.view_is (none_due_other c.self.inside.time c.args.t c.self.inside.actors c.args.from.0 c.args.below.0 (λ e. c.if-self-t.true (sym e)))

pub returns-in_err-who-clause-none : goal.returns-in_err-who-clause-none
returns-in_err-who-clause-none c =
    rw c.from_residual.ensures (subst (λ l. NoneDue l c.args.t c.args.from.0 c.args.below.0) c.self.view_is (none_due_past c.self.inside.time c.args.t c.self.inside.actors c.args.from.0 c.args.below.0 c.in_err-who.ensures.none))

pub returns-then-who-below-clause-least : goal.returns-then-who-below-clause-least
returns-then-who-below-clause-least c =
    subst (λ l. IsLeastDue l c.args.t c.args.from.0 c.args.below.0 c.in_ok-who.who) c.self.view_is (least_due_in c.self.inside.time c.args.t c.self.inside.actors c.args.from.0 c.args.below.0 c.in_ok-who.who c.in_ok-who.ensures.least c.if-who-below.true (ap (λ n. record { 0 = n }) c.if-self-t.false))

pub returns-else-who-below-clause-none : goal.returns-else-who-below-clause-none
returns-else-who-below-clause-none c =
    subst (λ l. NoneDue l c.args.t c.args.from.0 c.args.below.0) c.self.view_is (none_due_in c.self.inside.time c.args.t c.self.inside.actors c.args.from.0 c.args.below.0 (λ i lo hi. c.in_ok-who.ensures.least.least i lo (omega (arith, hi, c.if-who-below.false))))
