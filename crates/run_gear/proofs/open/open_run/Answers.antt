use Rattle.std.proofs.Common.{◌≡◌, ◌+◌, ◌≤◌, length, map, sym, ◌∙◌, ap, subst, arith, refl}
use Rattle.std.specs.Prelude.{[], slice_get, vec_len}
use Rattle.sim_base.specs.declared.time.TheConstants.{LATEST_TIME}
use Rattle.port_msg.specs.PortView.{PortView, port_view}
use Rattle.tick_law.specs.PlanView.{PlanView, IsPlan, start_of, link_wires}
use Rattle.tick_law.specs.declared.port_plan.PortPlan.{PortPlan}
use Rattle.trace_out.specs.Names.{NamesView, actors_of}
use Rattle.port_rows.specs.World.{IsFreshWorld}
use Rattle.run_gear.proofs.Setting.{link_side, length-map}
use Rattle.run_gear.proofs.open.open_run.Goals as goal

pub open_ports-requires : goal.open_ports-requires
open_ports-requires g c q p e = c.plan.invariant.capacities q p (ap (λ l. slice_get l q) (sym c.deref.ensures.value) ∙ e)

pub open-requires-clause-side : goal.open-requires-clause-side
open-requires-clause-side g c =
    let mp = g.P.Actor.machine in
    let mn = g.N.Actor.machine in
    let plan = c.args.plan in
    let is : IsPlan mp mn plan = subst (IsPlan mp mn) c.plan.view_is c.plan.invariant in
    let long : vec_len c.in_ok-ports.ports ≡ length c.in_ok-ports.ports.items = omega (arith, c.in_ok-ports.ports.ok.0) in
    let count : length c.in_ok-ports.ports.items ≡ length plan.ports = ap length c.in_ok-ports.ensures ∙ length-map (λ (p : PortPlan). port_view [] [] p.cap) c.deref.result.now ∙ ap length c.deref.ensures.value ∙ ap (λ (p : PlanView _ _). length p.ports) c.plan.view_is in
    link_side mp mn plan c.in_ok-wiring.wiring (vec_len c.in_ok-ports.ports) is c.in_ok-wiring.ensures (long ∙ count)

pub returns : goal.returns
returns g c =
    let plan = c.args.plan in
    let ports : c.in_ok-ports.ports.items ≡ (start_of plan).ports = c.in_ok-ports.ensures ∙ ap (map (λ (p : PortPlan). port_view [] [] p.cap)) (c.deref.ensures.value ∙ ap (λ (p : PlanView _ _). p.ports) c.plan.view_is) in
    let world = c.in_ok-world.ensures in
    let inv = c.plan.invariant in
    record {
      world_is = subst (λ w. IsFreshWorld plan.parts plan.links (start_of plan).ports w c.in_ok-world.world) c.in_ok-wiring.ensures
          (subst (λ l. IsFreshWorld plan.parts plan.links l c.in_ok-wiring.wiring c.in_ok-world.world) ports
          (subst (λ (p : PlanView _ _). IsFreshWorld p.parts p.links c.in_ok-ports.ports.items c.in_ok-wiring.wiring c.in_ok-world.world) c.plan.view_is world));
      gear_is = c.in_ok-gear.ensures.gear;
      items_are = c.in_ok-gear.ensures.none;
      names_are = c.in_ok-names.ensures;
      actors_named = ap actors_of c.in_ok-names.ensures ∙ sym (ap (λ (p : PlanView _ _). length p.part_names + length p.link_names) c.plan.view_is) ∙ (let n : length c.plan.inside.part_names.items + length c.plan.inside.link_names.items ≡ length c.plan.inside.parts.items + length c.plan.inside.links.items = omega (arith, inv.part_names, inv.link_names) in n) ∙ ap (λ (p : PlanView _ _). length p.parts + length p.links) c.plan.view_is;
      until_is = ap (λ (p : PlanView _ _). p.until) c.plan.view_is;
      until_within = subst (λ (p : PlanView _ _). p.until ≤ LATEST_TIME) c.plan.view_is inv.until;
    }
