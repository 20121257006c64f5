use Rattle.std.proofs.Common.{◌-◌, ◌≤◌, ◌≡◌, length}
use Rattle.bit_set.specs.Bits.{is_in}
use Rattle.hub_laws.specs.Events.{count_to}
use Rattle.run_hub.proofs.swap.count_up_to.Given as goal

abbrev pub invariant-loop-count : goal.invariant-loop-count
invariant-loop-count l = record {
  within : l.at ≤ length l.set;
  counted : l.count ≡ count_to (λ i. is_in l.set i) l.at;
  few : l.count ≤ l.limit;
}

abbrev pub decreases-loop-count : goal.decreases-loop-count
decreases-loop-count l = l.limit - l.count
