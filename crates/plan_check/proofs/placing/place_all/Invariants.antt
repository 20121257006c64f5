use Rattle.std.proofs.Common.{◌≡◌, take, length}
use Rattle.plan_check.specs.Programs.{last_byte, loads_of, written_over}
use Rattle.plan_check.proofs.placing.place_all.Given as goal

abbrev pub invariant-loop-no : goal.invariant-loop-no
invariant-loop-no l = record {
  so_far : l.bytes ≡ written_over l.base (last_byte l.port (loads_of l.programs.caches.now (take l.no l.programs.maps.now) (take l.no l.programs.images.now))) l.initial.bytes;
  same_length : length l.bytes ≡ length l.initial.bytes;
}
