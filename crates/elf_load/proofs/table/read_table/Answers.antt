use Rattle.std.proofs.Common.{◌∙◌, ◌≡◌, ◌+◌, ◌*◌, ◌++◌, ◌∷◌, [], ap, sym, true, false}
use Rattle.elf_load.specs.Fields.{program_header}
use Rattle.elf_load.specs.Image.{is_load, segment_of}
use Rattle.elf_load.proofs.Tables.{loads-load, loads-other}
use Rattle.elf_load.proofs.table.read_table.Goals as goal
use Rattle.elf_load.proofs.table.read_table.Goals.{then-is_load+in_ok-push, else-is_load}

pub loop-index-preserved : goal.loop-index-preserved
loop-index-preserved c = elim c.if-is_load.branch [
  | then-is_load+in_ok-push w ↦
      let load : is_load (program_header c.args.file.now (c.args.from + 32 * c.loop-index.index)) ≡ true = ap is_load (sym c.read-header.ensures) ∙ sym w.if-is_load.ensures in
      let pushed : c.if-is_load.segments.items ≡ c.loop-index.segments.items ++ segment_of (program_header c.args.file.now (c.args.from + 32 * c.loop-index.index)) ∷ [] =
      ap (λ v. v.items) w.segments-is ∙ w.in_ok-push.ensures.items ∙ ap (λ s. c.loop-index.segments.items ++ s ∷ []) (w.segment.ensures ∙ ap segment_of c.read-header.ensures) in
      rw pushed (loads-load c.loop-index.segments.items c.args.file.now c.args.from c.args.count c.loop-index.index c.loop-index-test.true load ∙ c.loop-index.invariant)
  | else-is_load w ↦
      let other : is_load (program_header c.args.file.now (c.args.from + 32 * c.loop-index.index)) ≡ false = ap is_load (sym c.read-header.ensures) ∙ sym w.if-is_load.ensures in
      rw w.segments-is (loads-other c.loop-index.segments.items c.args.file.now c.args.from c.args.count c.loop-index.index c.loop-index-test.true other ∙ c.loop-index.invariant)
]
