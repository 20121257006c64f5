use Rattle.std.proofs.Common.{set, Some, ap, refl, ◌∙◌, subst, sym}
use Rattle.event_queue.specs.Merged.{NoTimes}
use Rattle.event_queue.proofs.OneTimeLemmas.{joined, joined_same}
use Rattle.event_queue.proofs.one_time.OneTime.join.Goals as goal

pub returns-then-self-t-clause-joined : goal.returns-then-self-t-clause-joined
returns-then-self-t-clause-joined c = λ _. joined_same _ _ _ _ _ c.if-self-t.true c.insert.ensures ∙ ap (λ times. set times c.args.who.0 (Some c.args.t)) c.self.view_is

pub returns-clause-joined : goal.returns-clause-joined
returns-clause-joined c = λ _. joined c.self.inside.time _ _ _ _ (subst NoTimes (sym c.self.view_is) (c.if-not-is_empty.ensures refl)) c.insert-2.ensures ∙ ap (λ times. set times c.args.who.0 (Some c.args.t)) c.self.view_is
