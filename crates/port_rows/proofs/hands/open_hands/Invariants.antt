use Rattle.std.proofs.Common.{◌≡◌, ℕ, ◌+◌, length}
use Rattle.port_rows.specs.Opening.{AreHands}
use Rattle.port_rows.proofs.hands.open_hands.Given as goal

abbrev pub invariant-loop-j : goal.invariant-loop-j
invariant-loop-j l = record {
  long : length l.hands.items ≡ l.most + 1;
  hands : AreHands l.hands.items l.wiring l.j;
}
