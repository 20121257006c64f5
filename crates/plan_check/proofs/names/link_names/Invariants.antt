use Rattle.std.proofs.Common.{◌≡◌, map, take}
use Rattle.sim_config.specs.Tables.{LinkTable}
use Rattle.plan_check.proofs.names.link_names.Given as goal

abbrev pub invariant-loop-link : goal.invariant-loop-link
invariant-loop-link l = l.names.items ≡ map (λ (p : LinkTable). p.name) (take l.link-index l.links)
