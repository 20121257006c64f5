use Rattle.std.proofs.Common.{◌≡◌, drop}
use Rattle.plan_check.specs.Programs.{first_unmapped, unmapped_from}
use Rattle.plan_check.proofs.unmapped.first_unmapped.Given as goal

abbrev pub invariant-loop-no : goal.invariant-loop-no
invariant-loop-no l = unmapped_from l.plan l.no (drop l.no l.plan.programs) (drop l.no l.images) ≡ first_unmapped l.plan l.images
