use Rattle.std.proofs.Common.{◌≡◌, map, take}
use Rattle.plan_check.specs.Programs.{data_map}
use Rattle.plan_check.proofs.programs.data_maps.Given as goal

abbrev pub invariant-loop-program : goal.invariant-loop-program
invariant-loop-program l = l.maps.items ≡ map (data_map l.plan) (take l.program-index l.plan.programs)
