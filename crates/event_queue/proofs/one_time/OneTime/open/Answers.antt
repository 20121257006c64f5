use Rattle.std.proofs.Common.{ap, ◌∙◌}
use Rattle.event_queue.specs.Merged.{times_in}
use Rattle.event_queue.proofs.OneTimeLemmas.{times_in-empty}
use Rattle.event_queue.proofs.one_time.OneTime.open.Goals as goal

pub returns : goal.returns
returns c = ap (times_in (record { 0 = 0 })) c.in_ok-open.ensures ∙ times_in-empty _ c.args.actors
