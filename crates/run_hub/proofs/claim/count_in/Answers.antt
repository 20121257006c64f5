use Rattle.std.proofs.Common.{◌+◌, sym, ◌∙◌, ap, arith, refl, length}
use Rattle.run_hub.proofs.ClaimLaws.{count_to_over, count_one_more}
use Rattle.run_hub.proofs.claim.count_in.Goals as goal

pub loop-no-init : goal.loop-no-init
loop-no-init c = record { within = omega arith; counted = refl; few = omega arith }

pub loop-no-preserved : goal.loop-no-preserved
loop-no-preserved c =
    let inv = c.loop-no.invariant in
    let least = c.in-Some.ensures.least in
    let set = c.args.set.now in
    let who = c.in-Some.no in
    let w = least.within in
    let b = least.not_below in
    let f = inv.few in
    record {
      within = omega (arith, w);
      counted = ap (λ n. n + 1) (inv.counted ∙ sym (count_to_over set c.loop-no.at who b least.least)) ∙ sym (count_one_more set who least.here);
      few = omega (arith, f, b);
    }

pub loop-no-smaller : goal.loop-no-smaller
loop-no-smaller c =
    let a = c.in-Some.ensures.least.not_below in
    let b = c.in-Some.ensures.least.within in
    omega (arith, a, b)

pub returns : goal.returns
returns c =
    let inv = c.loop-no.invariant in
    inv.counted ∙ sym (count_to_over c.args.set.now c.loop-no.at (length c.args.set.now) inv.within c.in_default.ensures.none)
