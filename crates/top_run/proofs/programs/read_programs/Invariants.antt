use Rattle.std.proofs.Common.{◌≡◌, ◌≤◌, ℕ, List, length}
use Rattle.top_run.specs.Job.{AreOwn, AreLoaded}
use Rattle.top_run.proofs.programs.read_programs.Given as goal

abbrev pub invariant-loop-program : goal.invariant-loop-program
invariant-loop-program g l = record {
  loaded : AreLoaded (AreOwn (g.F.Files.contents l.initial.files)) l.programs l.images.items;
  count : length l.images.items ≡ l.program-index;
  stayed : (name : List ℕ) → g.F.Files.contents l.files name ≡ g.F.Files.contents l.initial.files name;
  rise : (name : List ℕ) → g.F.Files.faults l.initial.files name ≤ g.F.Files.faults l.files name;
}
