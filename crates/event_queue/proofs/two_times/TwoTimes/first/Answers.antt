use Rattle.std.proofs.Common.{subst, sym}
use Rattle.event_queue.specs.Merged.{IsLeastIn, lesser_of}
use Rattle.event_queue.proofs.KeyLemmas.{least_merged}
use Rattle.event_queue.proofs.two_times.TwoTimes.first.Goals as goal

pub returns : goal.returns
returns c = subst (IsLeastIn c.args.self.now) (sym c.lesser.ensures) (subst (λ l. IsLeastIn l (lesser_of c.first.result c.first-2.result)) c.self.view_is (least_merged _ _ _ _ c.self.invariant c.first.ensures c.first-2.ensures))
