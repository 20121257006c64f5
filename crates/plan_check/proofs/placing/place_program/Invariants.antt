use Rattle.std.proofs.Common.{◌≡◌, take, length}
use Rattle.plan_check.specs.Programs.{last_byte, program_loads, written_over}
use Rattle.plan_check.proofs.placing.place_program.Given as goal

abbrev pub invariant-loop-segment : goal.invariant-loop-segment
invariant-loop-segment l = record {
  so_far : l.bytes ≡ written_over l.base (last_byte l.port (program_loads (record { map = l.map; caches = l.caches }) l.image.file (take l.segment-index l.image.segments))) l.initial.bytes;
  same_length : length l.bytes ≡ length l.initial.bytes;
}
