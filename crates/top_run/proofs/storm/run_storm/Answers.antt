-- The sink of a storm never fails, so no line does.
use Rattle.std.proofs.Common.{arith, ◌∙◌, ◌≤◌, ap, Err}
use Rattle.top_run.proofs.storm.run_storm.Goals as goal

pub unreachable-requires : goal.unreachable-requires
unreachable-requires g c =
    let cut = c.run_plan.ensures.fault c.in-Err-Trace.field-0-0 (c.in-Err-Trace.is ∙ ap Err c.in-Err-Trace.field-0-is) in
    let rose : 1 ≤ 0 = cut.0 in
    omega (arith, rose)
