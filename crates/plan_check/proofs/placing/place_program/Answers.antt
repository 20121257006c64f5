use Rattle.std.proofs.Common.{◌≡◌, refl, sym, ap, ◌∙◌, arith, length, ◌∷◌, [], Some}
use Rattle.std.specs.Prelude.{slice_get, slice_index_or}
use Rattle.elf_load.specs.declared.segment.Segment.{Segment}
use Rattle.plan_check.specs.Caches.{Way}
use Rattle.plan_check.specs.Programs.{byte_for, written_over}
use Rattle.plan_check.proofs.Places.{some_at}
use Rattle.plan_check.proofs.Writing.{length-written, nothing_placed, placed_behind, segments_more}
use Rattle.plan_check.proofs.placing.place_program.Goals as goal

pub loop-segment-init : goal.loop-segment-init
loop-segment-init c = record { so_far = nothing_placed c.args.base c.args.port c.args.bytes.now; same_length = refl }

pub loop-segment-preserved : goal.loop-segment-preserved
loop-segment-preserved c =
    let way : Way = record { map = c.args.map.now; caches = c.args.caches.now } in
    let file = c.args.image.now.file in
    let segments = c.args.image.now.segments in
    let n = c.loop-segment.segment-index in
    let blank : Segment = record { vaddr = 0; mem_size = 0; from = 0; file_size = 0; header = 0 } in
    let segment = slice_index_or c.items-segment-items.result.now n blank in
    let there : slice_get segments n ≡ Some segment = ap (λ xs. slice_get xs n) (sym c.items-segment-items.ensures) ∙ some_at c.items-segment-items.result.now n blank (omega arith) in
    let placed = c.place_load.ensures ∙ ap (λ f. written_over c.args.base (byte_for c.args.port (record { way = way; file = f; segment = segment })) c.loop-segment.bytes) c.items-file.ensures in
    record {
      so_far = placed_behind c.args.base c.args.port _ (record { way = way; file = file; segment = segment } ∷ []) _ c.args.bytes.now c.loop-segment.bytes c.place_load.new.bytes (segments_more way file segments n segment there) c.loop-segment.invariant.so_far placed;
      same_length = ap length placed ∙ length-written c.args.base _ c.loop-segment.bytes ∙ c.loop-segment.invariant.same_length;
    }
