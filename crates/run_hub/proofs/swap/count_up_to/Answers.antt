use Rattle.std.proofs.Common.{◌≡◌, ◌+◌, ◌≤◌, sym, ◌∙◌, ap, arith, length}
use Rattle.bit_set.specs.Bits.{is_in}
use Rattle.run_hub.specs.Claims.{count_in}
use Rattle.run_hub.proofs.ClaimLaws.{count_to_over, count_one_more}
use Rattle.run_hub.proofs.SwapLaws.{count_up}
use Rattle.run_hub.proofs.swap.count_up_to.Goals as goal

pub returns-in_default : goal.returns-in_default
returns-in_default c =
    let inv = c.loop-count.invariant in
    let all : c.loop-count.count ≡ count_in c.args.set.now = inv.counted ∙ sym (count_to_over c.args.set.now c.loop-count.at (length c.args.set.now) inv.within c.in_default.ensures.none) in
    let few = inv.few in
    omega (arith, all, few)

pub loop-count-preserved : goal.loop-count-preserved
loop-count-preserved c =
    let inv = c.loop-count.invariant in
    let least = c.in-Some.ensures.least in
    let set = c.args.set.now in
    let who = c.in-Some.no in
    let w = least.within in
    let test = c.loop-count-test.true in
    record {
      within = omega (arith, w);
      counted = ap (λ n. n + 1) (inv.counted ∙ sym (count_to_over set c.loop-count.at who least.not_below least.least)) ∙ sym (count_one_more set who least.here);
      few = omega (arith, test);
    }

pub returns : goal.returns
returns c =
    let inv = c.loop-count.invariant in
    let test = c.loop-count-test.false in
    let counted = inv.counted in
    let few = inv.few in
    let up = count_up (λ i. is_in c.args.set.now i) c.loop-count.at (length c.args.set.now) inv.within in
    let enough : c.args.limit ≤ count_in c.args.set.now = omega (arith, test, counted, up) in
    omega (arith, enough)
