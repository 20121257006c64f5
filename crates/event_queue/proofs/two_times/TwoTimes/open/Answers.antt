use Rattle.event_queue.proofs.MergedLemmas.{merged-empty}
use Rattle.event_queue.proofs.two_times.TwoTimes.open.Goals as goal

pub returns : goal.returns
returns c = merged-empty _ _ c.args.actors c.in_ok-open.ensures c.in_ok-open-2.ensures
