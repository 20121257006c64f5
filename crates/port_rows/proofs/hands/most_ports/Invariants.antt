use Rattle.std.proofs.Common.{ℕ, ◌<◌, ◌≤◌, ◌^◌, length}
use Rattle.tick_law.specs.Wires.{own_of}
use Rattle.port_rows.proofs.hands.most_ports.Given as goal

abbrev pub invariant-loop-j : goal.invariant-loop-j
invariant-loop-j l = record {
  most : (i : ℕ) → i < l.j → length (own_of l.wiring i) ≤ l.most;
  short : l.most < 2 ^ 32;
}
