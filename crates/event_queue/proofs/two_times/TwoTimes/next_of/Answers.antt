use Rattle.std.proofs.Common.{length, ap, sym, ◌∙◌, arith}
use Rattle.event_queue.specs.NextTimes.{time_of}
use Rattle.event_queue.proofs.MergedLemmas.{length-merged, merged-one, merged-none}
use Rattle.event_queue.proofs.two_times.TwoTimes.next_of.Goals as goal

pub next_of-requires : goal.next_of-requires
next_of-requires c = omega (arith, ap length c.self.view_is, length-merged c.self.inside.one c.self.inside.other, c.requires)

pub next_of-requires-in-None : goal.next_of-requires-in-None
next_of-requires-in-None c = omega (arith, ap length c.self.view_is, length-merged c.self.inside.one c.self.inside.other, c.requires, c.self.invariant.same_length)

pub returns-in-Some : goal.returns-in-Some
returns-in-Some c = sym (merged-one _ _ c.self.invariant c.args.who.0 c.in-Some.t (sym c.in-Some.ensures)) ∙ ap (λ l. time_of l c.args.who.0) c.self.view_is

pub returns-in-None : goal.returns-in-None
returns-in-None c = c.next_of-in-None.ensures ∙ sym (merged-none _ _ c.self.invariant c.args.who.0 (sym c.in-None.ensures)) ∙ ap (λ l. time_of l c.args.who.0) c.self.view_is
