-- Both ranges of the test keep what a range keeps.
use Rattle.std.proofs.Common.{[], ◌∷◌, refl, lit≤}
use Rattle.std.proofs.lemmas.List.Elements.{All-cons, All-nil}
use Rattle.addr_map.specs.Range.{IsRange}
use Rattle.unit_tests.proofs.addresses.addresses_go_to_the_targets_in_turn.Goals as goal

pub open-requires-clause-shape : goal.open-requires-clause-shape
open-requires-clause-shape g c =
    rw (c.deref.ensures.value, c.in_ok-push-2.ensures.items, c.in_ok-push.ensures.items, c.new-ranges.ensures.items)
    (All-cons IsRange c.in_ok-range.field-0 (c.in_ok-range-2.field-0 ∷ [])
    (rw c.in_ok-range.ensures (record {
      base_aligned = refl;
      size_aligned = refl;
      not_empty = lit≤ tt;
      within_addresses = lit≤ tt;
      granule_power = (12, refl);
      granule_least = lit≤ tt;
      targets_power = (0, refl);
      targets_most = lit≤ tt;
    }))
    (All-cons IsRange c.in_ok-range-2.field-0 []
    (rw c.in_ok-range-2.ensures (record {
      base_aligned = refl;
      size_aligned = refl;
      not_empty = lit≤ tt;
      within_addresses = lit≤ tt;
      granule_power = (6, refl);
      granule_least = lit≤ tt;
      targets_power = (2, refl);
      targets_most = lit≤ tt;
    }))
    (All-nil IsRange)))
