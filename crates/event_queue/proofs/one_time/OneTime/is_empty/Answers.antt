use Rattle.std.proofs.Common.{subst}
use Rattle.event_queue.specs.Merged.{NoTimes}
use Rattle.event_queue.proofs.OneTimeLemmas.{no_times}
use Rattle.event_queue.proofs.one_time.OneTime.is_empty.Goals as goal

pub returns-in-None : goal.returns-in-None
returns-in-None c = λ _. subst NoTimes c.self.view_is (no_times _ _ c.in-None.ensures.none)
