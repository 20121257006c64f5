use Rattle.std.proofs.Common.{subst, refl}
use Rattle.event_queue.specs.Merged.{NoTimes, IsLeastKey}
use Rattle.event_queue.proofs.OneTimeLemmas.{no_times, IsLeastKey-next}
use Rattle.event_queue.proofs.one_time.OneTime.first.Goals as goal

pub returns-in_err-who : goal.returns-in_err-who
returns-in_err-who c = rw c.from_residual.ensures (subst NoTimes c.self.view_is (no_times _ _ c.in_err-who.ensures.none))

pub returns : goal.returns
returns c = subst (λ l. IsLeastKey l (record { time = c.self.inside.time; who = record { 0 = c.in_ok-who.who } })) c.self.view_is (IsLeastKey-next _ _ _ c.in_ok-who.ensures.least refl)
