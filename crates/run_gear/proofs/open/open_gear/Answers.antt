use Rattle.std.proofs.Common.{◌≡◌, ◌+◌, ◌*◌, ℕ, map, length, refl, sym, ◌∙◌, ap, subst, arith, rules}
use Rattle.std.specs.Prelude.{Some, slice_get, true, false}
use Rattle.port_msg.specs.RecView.{RecView}
use Rattle.tick_law.specs.Wires.{own_of}
use Rattle.tick_law.specs.PlanView.{PlanView, IsPlan, part_wires}
use Rattle.tick_law.specs.Laws.{Laws}
use Rattle.port_rows.specs.Opening.{AreHands}
use Rattle.run_gear.proofs.Setting.{fitted, room_enough, part_short, link_short, part_count, length-map}
use Rattle.run_gear.proofs.open.open_gear.Goals as goal

pub open_hands-requires-clause-short : goal.open_hands-requires-clause-short
open_hands-requires-clause-short g c j =
    let plan = c.args.plan.now in
    let is : IsPlan g.P.Actor.machine g.N.Actor.machine plan = subst (IsPlan g.P.Actor.machine g.N.Actor.machine) c.plan.view_is c.plan.invariant in
    let short = part_short g.P.Actor.machine g.N.Actor.machine plan is j in
    omega (arith, short, ap (λ w. length (own_of w j)) c.in_ok-parts.ensures.wires)

pub returns-clause-gear : goal.returns-clause-gear
returns-clause-gear g c =
    let mp = g.P.Actor.machine in
    let mn = g.N.Actor.machine in
    let plan = c.args.plan.now in
    let is : IsPlan mp mn plan = subst (IsPlan mp mn) c.plan.view_is c.plan.invariant in
    let parts : plan.parts ≡ c.plan.inside.parts.items = ap (λ (p : PlanView _ _). p.parts) (sym c.plan.view_is) in
    let links : plan.links ≡ c.plan.inside.links.items = ap (λ (p : PlanView _ _). p.links) (sym c.plan.view_is) in
    let ports : plan.ports ≡ c.plan.inside.ports.items = ap (λ (p : PlanView _ _). p.ports) (sym c.plan.view_is) in
    let laws_p : Laws mp g.P.Actor.valid true = record { sided = is.parts_are_parts; lawful = record { framed = g.met.P.Actor.framed; stays = g.met.P.Actor.stays }; quiet = g.met.P.Actor.quiet; later = g.met.P.Actor.due_later; steady = g.met.P.Actor.due_steady; period = g.met.P.Actor.period_within } in
    let laws_n : Laws mn g.N.Actor.valid false = record { sided = is.links_are_links; lawful = record { framed = g.met.N.Actor.framed; stays = g.met.N.Actor.stays }; quiet = g.met.N.Actor.quiet; later = g.met.N.Actor.due_later; steady = g.met.N.Actor.due_steady; period = g.met.N.Actor.period_within } in
    let known_p = λ (i : ℕ) (s : g.row.P.Denot) (e : slice_get plan.parts i ≡ Some s). c.all_known.ensures i s (ap (λ l. slice_get l i) (c.deref.ensures.value ∙ sym parts) ∙ e) in
    let known_n = λ (i : ℕ) (s : g.row.N.Denot) (e : slice_get plan.links i ≡ Some s). c.all_known-2.ensures i s (ap (λ l. slice_get l i) (c.deref-2.ensures.value ∙ sym links) ∙ e) in
    let pp = c.in_ok-parts.ensures in
    let lp = c.in_ok-links.ensures in
    let count : c.len.result ≡ length c.plan.inside.ports.items = search rules in
    let room : c.in_ok-recs.recs.room ≡ 128 * length plan.ports = ap (λ (r : RecView). r.room) c.in_ok-recs.ensures ∙ c.most_records.ensures ∙ ap (λ n. 128 * n) (count ∙ ap length (sym ports)) in
    record {
      part_wires_are = pp.wires;
      link_wires_are = lp.wires;
      order = record {
        start = pp.first;
        then = lp.first ∙ sym (ap length pp.periods ∙ length-map mp.period plan.parts);
        together = (let n : length c.in_ok-links.links.periods.items ≡ length plan.links = ap length lp.periods ∙ length-map mn.period plan.links in let z : length plan.parts + length plan.links ≡ c.in_ok-links.links.first + length c.in_ok-links.links.periods.items = omega (arith, n, lp.first) in z);
      };
      fitted = fitted mp mn g.P.Actor.valid g.N.Actor.valid plan c.in_ok-recs.recs.room c.in_ok-parts.parts.periods.items c.in_ok-links.links.periods.items is room laws_p laws_n known_p known_n pp.periods lp.periods;
      hands_are = subst (λ w. AreHands c.in_ok-hands.hands.items w (length plan.parts)) pp.wires
          (subst (λ n. AreHands c.in_ok-hands.hands.items c.in_ok-parts.parts.wiring n) (ap (λ w. length w.own) pp.wires ∙ part_count mp mn plan is) c.in_ok-hands.ensures);
      enough = room_enough mp mn plan c.in_ok-recs.recs.room is room;
      part_short = part_short mp mn plan is;
      link_short = link_short mp mn plan is;
    }
