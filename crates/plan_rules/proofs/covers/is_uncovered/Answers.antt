use Rattle.std.proofs.Common.{sym, arith}
use Rattle.plan_rules.proofs.Below.{uncovered_at, covered}
use Rattle.plan_rules.proofs.covers.is_uncovered.Goals as goal

pub returns-in-None : goal.returns-in-None
returns-in-None c = sym (uncovered_at c.args.ranges.now c.args.first c.args.count c.loop-at.at (omega arith) (omega arith) c.in-None.ensures.none)

pub returns : goal.returns
returns c = sym (covered c.args.ranges.now c.args.first c.args.count (λ k from below. c.loop-at.invariant.held k from (omega arith)))
