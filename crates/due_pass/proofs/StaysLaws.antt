-- What turns leave of a gear.
use Rattle.std.proofs.Common.{◌∙◌, refl}
use Rattle.actor_turn.specs.declared.gear.RowGear.{RowGear}
use Rattle.actor_turn.specs.Turn.{GearStays}

pub stays_none : (g : RowGear) → GearStays g g
stays_none g = record { parts = refl; links = refl; hands = refl; part_due = refl; link_due = refl }

pub stays_then : (a b c : RowGear) → GearStays a b → GearStays b c → GearStays a c
stays_then a b c s r = record {
  parts = r.parts ∙ s.parts;
  links = r.links ∙ s.links;
  hands = r.hands ∙ s.hands;
  part_due = r.part_due ∙ s.part_due;
  link_due = r.link_due ∙ s.link_due;
}
