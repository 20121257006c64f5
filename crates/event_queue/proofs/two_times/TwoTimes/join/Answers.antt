use Rattle.std.proofs.Common.{◌<◌, set, length, Some, None, ap, sym, subst, ◌∙◌, arith, refl}
use Rattle.event_queue.specs.NextTimes.{time_of}
use Rattle.event_queue.specs.Merged.{IsApart}
use Rattle.event_queue.proofs.MergedLemmas.{length-merged, Sets-is, Sets-same, merged_now, absent_in_both, joined_one, joined_other}
use Rattle.event_queue.proofs.two_times.TwoTimes.join.Goals as goal

pub join-requires : goal.join-requires
join-requires c = omega (arith, ap length c.self.view_is, length-merged c.self.inside.one c.self.inside.other, c.requires.known, c.self.invariant.same_length)

pub join-requires-2 : goal.join-requires-2
join-requires-2 c = omega (arith, ap length c.self.view_is, length-merged c.self.inside.one c.self.inside.other, c.requires.known)

pub join-requires-3 : goal.join-requires-3
join-requires-3 c = omega (arith, ap length c.self.view_is, length-merged c.self.inside.one c.self.inside.other, c.requires.known, c.self.invariant.same_length)

pub returns-then-joins_other-clause-joined : goal.returns-then-joins_other-clause-joined
returns-then-joins_other-clause-joined c = λ e.
    let who = c.args.who.0 in
    let known : who < length c.self.inside.one = omega (arith, ap length c.self.view_is, length-merged c.self.inside.one c.self.inside.other, c.requires.known) in
    let gone = absent_in_both _ _ c.self.invariant who (ap (λ l. time_of l who) c.self.view_is ∙ c.requires.absent) in
    merged_now c.self.inside.one c.self.inside.other _ _ who None (Some c.args.t) c.self.invariant (Sets-same _ _ _ _ refl gone.0) (Sets-is _ _ _ _ (omega (arith, known, c.self.invariant.same_length)) (c.join.ensures.joined e)) known
    ∙ ap (λ times. set times who (Some c.args.t)) c.self.view_is

pub invariant_of-self : goal.invariant_of-self
invariant_of-self c =
    let who = c.args.who.0 in
    let known : who < length c.self.inside.one = omega (arith, ap length c.self.view_is, length-merged c.self.inside.one c.self.inside.other, c.requires.known) in
    let gone = absent_in_both _ _ c.self.invariant who (ap (λ l. time_of l who) c.self.view_is ∙ c.requires.absent) in
    joined_other _ _ _ who c.args.t c.join.result c.self.invariant known gone.0 c.join.ensures.joined c.join.ensures.refused

pub returns-then-join-clause-joined : goal.returns-then-join-clause-joined
returns-then-join-clause-joined c = λ _.
    let who = c.args.who.0 in
    let known : who < length c.self.inside.one = omega (arith, ap length c.self.view_is, length-merged c.self.inside.one c.self.inside.other, c.requires.known) in
    let gone = absent_in_both _ _ c.self.invariant who (ap (λ l. time_of l who) c.self.view_is ∙ c.requires.absent) in
    merged_now c.self.inside.one c.self.inside.other _ _ who (Some c.args.t) None c.self.invariant (Sets-is _ _ _ _ known (c.if-join.ensures.joined refl)) (Sets-same _ _ _ _ refl gone.1) known
    ∙ ap (λ times. set times who (Some c.args.t)) c.self.view_is

pub invariant_of-self-then-join : goal.invariant_of-self-then-join
invariant_of-self-then-join c =
    let who = c.args.who.0 in
    let known : who < length c.self.inside.one = omega (arith, ap length c.self.view_is, length-merged c.self.inside.one c.self.inside.other, c.requires.known) in
    let gone = absent_in_both _ _ c.self.invariant who (ap (λ l. time_of l who) c.self.view_is ∙ c.requires.absent) in
    joined_one _ _ _ who c.args.t c.join-2.result c.self.invariant known gone.1 c.join-2.ensures.joined c.join-2.ensures.refused

pub invariant_of-self-2 : goal.invariant_of-self-2
invariant_of-self-2 c =
    let who = c.args.who.0 in
    let known : who < length c.self.inside.one = omega (arith, ap length c.self.view_is, length-merged c.self.inside.one c.self.inside.other, c.requires.known) in
    let gone = absent_in_both _ _ c.self.invariant who (ap (λ l. time_of l who) c.self.view_is ∙ c.requires.absent) in
    let apart = joined_other _ _ _ who c.args.t c.join-3.result c.self.invariant known gone.0 c.join-3.ensures.joined c.join-3.ensures.refused in
    subst (λ one. IsApart one c.join-3.new.self) (sym (c.if-join.ensures.refused refl)) apart

pub returns-clause-joined : goal.returns-clause-joined
returns-clause-joined c = λ e.
    let who = c.args.who.0 in
    let known : who < length c.self.inside.one = omega (arith, ap length c.self.view_is, length-merged c.self.inside.one c.self.inside.other, c.requires.known) in
    let gone = absent_in_both _ _ c.self.invariant who (ap (λ l. time_of l who) c.self.view_is ∙ c.requires.absent) in
    merged_now c.self.inside.one c.self.inside.other _ _ who None (Some c.args.t) c.self.invariant (Sets-same _ _ _ _ (c.if-join.ensures.refused refl) gone.0) (Sets-is _ _ _ _ (omega (arith, known, c.self.invariant.same_length)) (c.join-3.ensures.joined e)) known
    ∙ ap (λ times. set times who (Some c.args.t)) c.self.view_is
