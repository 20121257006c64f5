use Rattle.plan_rules.proofs.Steps.{ranges_step}
use Rattle.plan_rules.proofs.tables.add_ranges.Goals as goal

pub loop-no-preserved : goal.loop-no-preserved
loop-no-preserved c = ranges_step c.args.text.now c.args.tables.now.items c.loop-no.tables.items _ c.loop-no.no c.range_count.result c.loop-no.invariant c.range_count.ensures (c.in_ok-add_tables.ensures {u = tt})
