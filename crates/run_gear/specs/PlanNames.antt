-- The names that the lines of a run have.
use Rattle.std.specs.Prelude.{map}
use Rattle.tick_law.specs.PlanView.{PlanView}
use Rattle.tick_law.specs.declared.port_plan.PortPlan.{PortPlan}
use Rattle.trace_out.specs.Names.{NamesView, names_view}
use Rattle.trace_out.specs.declared.names.PortName.{PortName}

-- a port's part and its word there
abbrev pub port_name : PortPlan → PortName
port_name p = record { part = p.part; word = p.word }

-- the names of a plan's parts, links and ports
abbrev pub names_of : {P N : Type 0} → PlanView P N → NamesView
names_of plan = names_view plan.part_names plan.link_names (map port_name plan.ports)
