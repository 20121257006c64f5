use Rattle.std.proofs.Common.{◌≡◌, ℕ, ◌<◌}
use Rattle.std.specs.Prelude.{Some, slice_get}
use Rattle.run_gear.proofs.tables.all_known.Given as goal

abbrev pub invariant-loop-actor : goal.invariant-loop-actor
invariant-loop-actor g l = (i : ℕ) (s : g.row.S.Denot) → i < l.actor-index → slice_get l.actors i ≡ Some s → g.S.Actor.valid s
