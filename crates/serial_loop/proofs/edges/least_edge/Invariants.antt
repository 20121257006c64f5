use Rattle.std.proofs.Common.{◌≡◌, ℕ, ◌<◌, ◌≤◌, ◌⊎◌, get_or}
use Rattle.sim_base.specs.Edge.{edge_from}
use Rattle.serial_loop.proofs.edges.least_edge.Given as goal

abbrev pub invariant-loop-no : goal.invariant-loop-no
invariant-loop-no l = record {
  from : l.at ≤ l.low;
  within : l.low ≤ l.bound;
  reached : (l.low ≡ l.bound) ⊎ ((i : ℕ) × (i < l.no) × (l.low ≡ edge_from (get_or l.periods i 0) l.at));
  each : (i : ℕ) → i < l.no → l.low ≤ edge_from (get_or l.periods i 0) l.at;
}
