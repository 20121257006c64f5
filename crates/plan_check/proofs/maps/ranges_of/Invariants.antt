use Rattle.std.proofs.Common.{◌≡◌, map, take}
use Rattle.std.specs.Prelude.{All}
use Rattle.addr_map.specs.Range.{IsRange}
use Rattle.plan_rules.specs.Text.{ranges_at}
use Rattle.plan_check.specs.Maps.{range_of}
use Rattle.plan_check.proofs.maps.ranges_of.Given as goal

abbrev pub invariant-loop-place : goal.invariant-loop-place
invariant-loop-place l = record {
  so_far : l.ranges.items ≡ map (range_of l.plan) (take l.place (ranges_at l.plan l.no));
  shape : All IsRange l.ranges.items;
}
