use Rattle.std.proofs.Common.{set, None, ap, ◌∙◌}
use Rattle.event_queue.proofs.OneTimeLemmas.{times_in-set}
use Rattle.event_queue.proofs.one_time.OneTime.clear.Goals as goal

pub returns : goal.returns
returns c = times_in-set _ _ _ _ _ c.remove.ensures ∙ ap (λ times. set times c.args.who.0 None) c.self.view_is
