use Rattle.std.proofs.Common.{◌≡◌, take}
use Rattle.serde_json.specs.View.{members_view}
use Rattle.part_view.specs.Bodies.{field_members}
use Rattle.part_view.proofs.bodies.fields_object.Given as goal

abbrev pub invariant-loop-no : goal.invariant-loop-no
invariant-loop-no l = members_view l.members.entries ≡ field_members (take l.no l.names) (take l.no l.values)
