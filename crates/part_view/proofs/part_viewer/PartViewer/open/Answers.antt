use Rattle.std.proofs.Common.{◌∙◌, length, ap}
use Rattle.part_view.proofs.EntryLaws.{ports_within}
use Rattle.part_view.proofs.part_viewer.PartViewer.open.Goals as goal

pub labels_of-requires : goal.labels_of-requires
labels_of-requires c =
    let plan = c.plan.inside in
    ports_within c.deref-4.result.now plan.ports.items (length c.deref-3.result.now) (length plan.parts.items) (length plan.part_names.items)
    c.deref-4.ensures.value c.plan.invariant.part_owned (ap length (c.deref-3.ensures.value ∙ c.in_ok-part_names.ensures ∙ c.deref.ensures.value)) c.plan.invariant.part_names
