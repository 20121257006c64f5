use Rattle.std.proofs.Common.{ap, ◌∙◌}
use Rattle.event_queue.specs.NextTimes.{time_of}
use Rattle.event_queue.proofs.OneTimeLemmas.{other_time}
use Rattle.event_queue.proofs.one_time.OneTime.has_time.Goals as goal

pub returns : goal.returns
returns c = λ out i e. other_time c.self.inside.time c.args.t c.self.inside.actors out i (ap (λ l. time_of l i) c.self.view_is ∙ e)
