use Rattle.std.proofs.Common.{rules, ◌≡◌, ◌+◌, ◌∙◌, ◌≤◌, List, length, ap, sym, inl, arith}
use Rattle.port_rows.specs.World.{state_of}
use Rattle.tick_law.specs.SerialLoop.{world_at, records_below}
use Rattle.tick_law.specs.Verdict.{end_at}
use Rattle.task_stats.specs.Tasks.{TasksView}
use Rattle.run_gear.specs.Counted.{counted_with}
use Rattle.run_gear.specs.PlanNames.{names_of}
use Rattle.top_run.specs.Top.{loop_of, no_counts, plan_counts, plan_verdict}
use Rattle.top_run.proofs.Shown.{part_count, link_count, report_same, count_each, each_lent}
use Rattle.top_run.proofs.Causes.{fault_of_run}
use Rattle.top_run.proofs.run.show_run.Goals as goal

pub report-requires : goal.report-requires
report-requires g c =
    let plan = c.args.plan in
    let world = state_of c.in-Ok.ending.world in
    let named : length plan.part_names ≡ length plan.parts = search rules in
    let linked : length plan.link_names ≡ length plan.links = search rules in
    let few : length plan.parts ≤ 256 = search rules in
    let parts = part_count plan (plan.until + 1) world c.in_ok-names.names.parts (ap (λ n. n.parts) c.in_ok-names.ensures) c.in-Ok.ensures.world named in
    let links = link_count plan (plan.until + 1) world c.in_ok-names.names.links (ap (λ n. n.links) c.in_ok-names.ensures) c.in-Ok.ensures.world linked in
    let names : length c.in_ok-names.names.parts ≡ length plan.part_names = ap (λ n. length n.parts) c.in_ok-names.ensures in
    let recs = records_below (loop_of plan) (plan.until + 1) in
    let count : c.len.result ≡ length plan.parts = search rules in
    let is : c.in-Ok.ending.stats ≡ plan_counts c.args.options plan = c.in-Ok.ensures.stats ∙ ap (λ k. counted_with k recs) (c.in_ok-stats.ensures ∙ ap (no_counts c.args.options.stats) count) in
    let same : length plan.parts ≡ length world.parts = sym named ∙ sym names ∙ parts in
    let counts = count_each c.args.options.stats (length plan.parts) (length world.parts) recs c.in-Ok.ending.stats is same in
    record {
      parts = parts;
      links = links;
      few = omega (arith, parts, names, named, few);
      counts = each_lent _ (λ (tasks : List TasksView). length tasks ≡ length world.parts) c.as_ref-counts.result c.in-Ok.ending.stats c.as_ref-counts.ensures.value counts;
    }

pub returns-clause-report : goal.returns-clause-report
returns-clause-report g c =
    let plan = c.args.plan in
    let recs = records_below (loop_of plan) (plan.until + 1) in
    let count : c.len.result ≡ length plan.parts = search rules in
    let is : c.in-Ok.ending.stats ≡ plan_counts c.args.options plan = c.in-Ok.ensures.stats ∙ ap (λ k. counted_with k recs) (c.in_ok-stats.ensures ∙ ap (no_counts c.args.options.stats) count) in
    let same = report_same c.in_ok-names.names (names_of plan) plan.until (state_of c.in-Ok.ending.world) (world_at (loop_of plan) (plan.until + 1)) c.in-Ok.ending.verdict (plan_verdict plan) c.in-Ok.ending.end.0 (end_at (loop_of plan) plan.until) _ (plan_counts c.args.options plan) c.args.options.dump c.in_ok-names.ensures c.in-Ok.ensures.world c.in-Ok.ensures.verdict c.in-Ok.ensures.end (c.as_ref-counts.ensures.value ∙ is) in
    search rules

pub returns-in-Err-clause-fault : goal.returns-in-Err-clause-fault
returns-in-Err-clause-fault g c = rw c.refusal_of.ensures (fault_of_run _ _ _ c.in-Err.fault (λ same. inl same) c.in-Err.ensures.fault)
