use Rattle.std.proofs.Common.{◌<◌, set, length, None, ap, ◌∙◌, arith}
use Rattle.event_queue.proofs.MergedLemmas.{length-merged, Sets-is, merged_now}
use Rattle.event_queue.proofs.two_times.TwoTimes.clear.Goals as goal

pub clear-requires : goal.clear-requires
clear-requires c = omega (arith, ap length c.self.view_is, length-merged c.self.inside.one c.self.inside.other, c.requires)

pub clear-requires-2 : goal.clear-requires-2
clear-requires-2 c = omega (arith, ap length c.self.view_is, length-merged c.self.inside.one c.self.inside.other, c.requires, c.self.invariant.same_length)

pub returns : goal.returns
returns c =
    let known : c.args.who.0 < length c.self.inside.one = omega (arith, ap length c.self.view_is, length-merged c.self.inside.one c.self.inside.other, c.requires) in
    merged_now c.self.inside.one c.self.inside.other _ _ c.args.who.0 None None c.self.invariant (Sets-is _ _ _ _ known c.clear.ensures) (Sets-is _ _ _ _ (omega (arith, known, c.self.invariant.same_length)) c.clear-2.ensures) known
    ∙ ap (λ times. set times c.args.who.0 None) c.self.view_is
