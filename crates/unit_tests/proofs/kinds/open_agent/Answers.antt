-- The range that the agent is opened with keeps what a range keeps.
use Rattle.std.specs.Prelude.{[]}
use Rattle.std.proofs.Common.{refl, lit≤}
use Rattle.std.proofs.lemmas.List.Elements.{All-cons, All-nil}
use Rattle.addr_map.specs.Range.{IsRange}
use Rattle.unit_tests.proofs.kinds.open_agent.Goals as goal

pub open-requires-clause-shape : goal.open-requires-clause-shape
open-requires-clause-shape c =
    rw c.in_ok-ranges_to.ensures
    (All-cons IsRange _ [] (record {
      base_aligned = refl;
      size_aligned = refl;
      not_empty = lit≤ tt;
      within_addresses = lit≤ tt;
      granule_power = (6, refl);
      granule_least = lit≤ tt;
      targets_power = (0, refl);
      targets_most = lit≤ tt;
    }) (All-nil IsRange))
