use Rattle.std.proofs.Common.{◌<◌, ◌∙◌, min, length, refl, ap, arith}
use Rattle.std.proofs.lemmas.Option.{slice_get_read}
use Rattle.serde_json.specs.Data.{put}
use Rattle.serde_json.specs.View.{view, members_view}
use Rattle.part_view.proofs.EntryLaws.{slice_get_at}
use Rattle.part_view.proofs.FieldLaws.{one_field_more, all_fields}
use Rattle.part_view.proofs.bodies.fields_object.Goals as goal

pub loop-no-preserved : goal.loop-no-preserved
loop-no-preserved c =
    let names = c.args.names.now in
    let values = c.args.values.now in
    let place = c.loop-no.no in
    let below : place < min (length names) (length values) = omega (arith, c.min-no-end.ensures, c.loop-no-test.true) in
    one_field_more names values place c.index-names-no.result _ (view c.in_ok-value.value) (members_view c.loop-no.members.entries) (members_view c.put.new.map.entries)
    (slice_get_read names (length names) place c.index-names-no.result refl (omega (arith, below)) c.index-names-no.is)
    (slice_get_at values place _ (omega (arith, below)))
    c.in_ok-value.ensures c.loop-no.invariant
    (c.in_ok-put.ensures.ok ∙ ap (λ name. put name (view c.in_ok-value.value) (members_view c.loop-no.members.entries)) c.as_str.ensures)

pub returns : goal.returns
returns c =
    let names = c.args.names.now in
    let values = c.args.values.now in
    let end = c.loop-no-test.false in
    all_fields names values c.loop-no.no (members_view c.loop-no.members.entries) (omega (arith, end, c.loop-no.auto.no-end, c.min-no-end.ensures)) c.loop-no.invariant
