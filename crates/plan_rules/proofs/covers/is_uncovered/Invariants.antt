use Rattle.std.proofs.Common.{◌≡◌, ℕ, ◌≤◌, ◌<◌, ◌-◌, true}
use Rattle.std.specs.List.{list_any}
use Rattle.plan_rules.specs.Rules.{holds}
use Rattle.plan_rules.proofs.covers.is_uncovered.Given as goal

-- each byte in front of this one is in a range
abbrev pub invariant-loop-at : goal.invariant-loop-at
invariant-loop-at l = record {
  from : l.first ≤ l.at;
  held : (k : ℕ) → l.first ≤ k → k < l.at → list_any (holds k) l.ranges ≡ true;
}

abbrev pub decreases-loop-at : goal.decreases-loop-at
decreases-loop-at l = l.end - l.at
