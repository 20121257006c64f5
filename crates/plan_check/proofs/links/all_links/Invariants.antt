use Rattle.std.proofs.Common.{◌≡◌, map, take, length}
use Rattle.part_kind.specs.LinkKind.{link_own}
use Rattle.sim_config.specs.Tables.{LinkTable}
use Rattle.plan_check.specs.Plan.{links_to}
use Rattle.plan_check.proofs.links.all_links.Given as goal

abbrev pub invariant-loop-no : goal.invariant-loop-no
invariant-loop-no l = record {
  so_far : l.links.items ≡ links_to l.plan l.no;
  own : map link_own l.links.items ≡ map (λ (t : LinkTable). length t.ports) (take l.no l.tables);
}
