use Rattle.std.proofs.Common.{◌≡◌, drop}
use Rattle.std.specs.Prelude.{find}
use Rattle.elf_load.specs.declared.segment.Segment.{Segment}
use Rattle.plan_rules.specs.Rules.{is_uncovered}
use Rattle.plan_check.proofs.unmapped.unmapped_in.Given as goal

abbrev pub invariant-loop-segment : goal.invariant-loop-segment
invariant-loop-segment l = find (λ (s : Segment). is_uncovered l.ranges s.vaddr s.mem_size) (drop l.segment-index l.segments) ≡ find (λ (s : Segment). is_uncovered l.ranges s.vaddr s.mem_size) l.segments
