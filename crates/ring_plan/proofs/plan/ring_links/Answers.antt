use Rattle.std.proofs.Common.{◌≡◌, length, ◌∙◌, ap, arith}
use Rattle.ring_plan.specs.Ring.{port_no}
use Rattle.ring_plan.proofs.RingLaws.{length-mapped}
use Rattle.ring_plan.proofs.plan.ring_links.Goals as goal

pub open-requires-clause-few : goal.open-requires-clause-few
open-requires-clause-few c =
    let count : length c.of.result ≡ c.args.count = ap length (c.of.ensures ∙ c.in_ok-ports.ensures) ∙ length-mapped port_no c.args.count in
    omega (arith, count, c.requires)
