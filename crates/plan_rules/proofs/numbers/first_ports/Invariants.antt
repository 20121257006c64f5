use Rattle.std.proofs.Common.{◌≡◌, ℕ, ◌<◌, length, get_or}
use Rattle.plan_rules.specs.Text.{first_port}
use Rattle.plan_rules.proofs.numbers.first_ports.Given as goal

-- the first ports so far, and the next one
abbrev pub invariant-loop-part : goal.invariant-loop-part
invariant-loop-part l = record {
  count : length l.first_ports.items ≡ l.part-index;
  each : (i : ℕ) → i < l.part-index → get_or l.first_ports.items i 0 ≡ first_port l.text i;
  next_is : l.next ≡ first_port l.text l.part-index;
}
