use Rattle.std.proofs.Common.{length, refl, sym}
use Rattle.std.proofs.lemmas.Option.{slice_get_read}
use Rattle.part_view.specs.Entries.{part_entry}
use Rattle.part_view.proofs.EntryLaws.{one_entry_more}
use Rattle.part_view.proofs.lists.part_values.Goals as goal

pub loop-no-preserved : goal.loop-no-preserved
loop-no-preserved c =
    let count = length c.args.parts.now in
    one_entry_more (part_entry c.args.list) c.args.names.now c.args.parts.now c.loop-no.no c.index-names-no.result c.index-parts-no.result _ _ _
    (slice_get_read c.args.names.now count c.loop-no.no c.index-names-no.result (sym c.requires) c.loop-no-test.true c.index-names-no.is)
    (slice_get_read c.args.parts.now count c.loop-no.no c.index-parts-no.result refl c.loop-no-test.true c.index-parts-no.is)
    c.in_ok-entry.ensures c.loop-no.invariant c.in_ok-add.ensures
