-- The range of the memory keeps what a range keeps.
use Rattle.std.proofs.Common.{[], refl, lit≤}
use Rattle.std.proofs.lemmas.List.Elements.{All-cons, All-nil}
use Rattle.addr_map.specs.Range.{IsRange}
use Rattle.unit_tests.proofs.core_programs.memory_map.Goals as goal

pub returns-clause-shape : goal.returns-clause-shape
returns-clause-shape c =
    rw (c.of.ensures, c.in_ok-push.ensures.items, c.new-ranges.ensures.items)
    (All-cons IsRange c.in_ok-range.range []
    (rw c.in_ok-range.ensures (record {
      base_aligned = refl;
      size_aligned = refl;
      not_empty = lit≤ tt;
      within_addresses = lit≤ tt;
      granule_power = (6, refl);
      granule_least = lit≤ tt;
      targets_power = (0, refl);
      targets_most = lit≤ tt;
    }))
    (All-nil IsRange))
