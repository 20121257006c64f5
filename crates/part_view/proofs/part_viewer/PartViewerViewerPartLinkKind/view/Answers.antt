use Rattle.std.proofs.Common.{◌∙◌, ap}
use Rattle.port_rows.specs.World.{state_of}
use Rattle.serde_json.specs.Written.{has_float, compact_text}
use Rattle.part_view.proofs.FloatLaws.{plain_body}
use Rattle.part_view.proofs.part_viewer.PartViewerViewerPartLinkKind.view.Goals as goal

pub returns : goal.returns
returns c =
    c.of.ensures
    ∙ c.in_ok-text.ensures.text (ap has_float c.in_ok-value.ensures ∙ plain_body c.args.self.now c.args.query.now (state_of c.args.world.now) c.args.at.0)
    ∙ ap compact_text c.in_ok-value.ensures
