-- A text beside the numbers that its names stand for.
use Rattle.std.specs.Prelude.{◌≡◌, ℕ, ◌+◌, ◌≤◌, List, [], length, sum_by, slice_index, slice_index_or, Option, Some, None, Bool, false, ◌==◌, position}
use Rattle.std.specs.List.{list_any}
use Rattle.sim_config.specs.Tables.{PlanTables, PartTable}
use Rattle.plan_rules.specs.Kinds.{port_count}
use Rattle.plan_rules.specs.Text.{first_port, link_ports, all_targets, map_no}

-- a text with no more tables than a plan has
pub record IsFew (text : PlanTables) : Type 0 where
  pub maps : length text.maps ≤ 64
  pub parts : length text.parts ≤ 256
  pub links : length text.links ≤ 64
  pub programs : length text.programs ≤ 256
  pub ports : sum_by (λ (p : PartTable). port_count p.kind) text.parts ≤ 1024

-- the number of each part's first port, and behind them the number of all ports
pub record AreFirstPorts (text : PlanTables) (first_ports : List ℕ) : Type 0 where
  pub count : length first_ports ≡ length text.parts + 1
  pub each : (i : ℕ) → i ≤ length text.parts → slice_index first_ports i ≡ first_port text i

-- the numbers are those of the text
pub record AreNumbers (text : PlanTables) (targets : List (List (List (Option ℕ)))) (ports : List (List (Option ℕ))) (first_ports : List ℕ) : Type 0 where
  pub few : IsFew text
  pub targets_are : targets ≡ all_targets text
  pub ports_are : ports ≡ link_ports text
  pub firsts : AreFirstPorts text first_ports
