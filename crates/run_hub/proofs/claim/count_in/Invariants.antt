use Rattle.std.proofs.Common.{◌+◌, ◌-◌, ◌≤◌, ◌≡◌, length}
use Rattle.bit_set.specs.Bits.{is_in}
use Rattle.hub_laws.specs.Events.{count_to}
use Rattle.run_hub.proofs.claim.count_in.Given as goal

abbrev pub invariant-loop-no : goal.invariant-loop-no
invariant-loop-no l = record {
  within : l.at ≤ length l.set;
  counted : l.count ≡ count_to (λ i. is_in l.set i) l.at;
  few : l.count ≤ l.at;
}

abbrev pub decreases-loop-no : goal.decreases-loop-no
decreases-loop-no l = length l.set + 1 - l.at
