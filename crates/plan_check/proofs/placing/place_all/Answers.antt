use Rattle.std.proofs.Common.{◌≡◌, refl, ap, ◌∙◌, arith, length, Some}
use Rattle.std.specs.Prelude.{slice_get, slice_index_or}
use Rattle.plan_check.specs.Programs.{program_loads}
use Rattle.plan_check.proofs.Places.{some_at}
use Rattle.plan_check.proofs.Writing.{length-written, nothing_placed, placed_behind, programs_more}
use Rattle.plan_check.proofs.placing.place_all.Goals as goal

pub loop-no-init : goal.loop-no-init
loop-no-init c = record { so_far = nothing_placed c.args.base c.args.port c.args.bytes.now; same_length = refl }

pub loop-no-preserved : goal.loop-no-preserved
loop-no-preserved c =
    let caches = c.args.programs.now.caches.now in
    let maps = c.args.programs.now.maps.now in
    let images = c.args.programs.now.images.now in
    let n = c.loop-no.no in
    let to = slice_index_or maps n c.index-programs-no.result in
    let image = slice_index_or images n c.index-programs-no-in-loop-no.result in
    let here : slice_get maps n ≡ Some to = some_at maps n c.index-programs-no.result (omega (arith, c.requires.count, c.loop-no-test.true)) in
    let there : slice_get images n ≡ Some image = some_at images n c.index-programs-no-in-loop-no.result (omega arith) in
    record {
      so_far = placed_behind c.args.base c.args.port _ (program_loads (record { map = to; caches = caches }) image.file image.segments) _ c.args.bytes.now c.loop-no.bytes c.place_program.new.bytes (programs_more caches maps images n to image here there) c.loop-no.invariant.so_far c.place_program.ensures;
      same_length = ap length c.place_program.ensures ∙ length-written c.args.base _ c.loop-no.bytes ∙ c.loop-no.invariant.same_length;
    }
