-- The engine at its beginning.
use Rattle.std.proofs.Common.{◌≡◌, ℕ, ◌+◌, ◌*◌, ◌≤◌, List, length, map, replicate, sym, ◌∙◌, ap, subst, arith, refl}
use Rattle.std.specs.Prelude.{Option, Some}
use Rattle.port_msg.specs.PortView.{PortView}
use Rattle.sim_base.specs.declared.time.Time.{Time}
use Rattle.port_msg.specs.RecView.{RecView}
use Rattle.model_laws.specs.Outcome.{own_to}
use Rattle.port_row.specs.Row.{face_of}
use Rattle.port_rows.specs.Rows.{RowsView}
use Rattle.port_rows.specs.World.{IsFreshWorld}
use Rattle.port_rows.specs.declared.world.World.{World}
use Rattle.tick_law.specs.Machine.{Machine}
use Rattle.tick_law.specs.PlanView.{PlanView, part_wires, link_wires, start_of, opening, system_from}
use Rattle.tick_law.specs.SerialLoop.{Start, whole_world}
use Rattle.tick_law.specs.WorldPlaces.{alls, WorldPlaces}
use Rattle.model_laws.specs.Fitted.{Fitted}
use Rattle.model_laws.specs.SideTimes.{half_of}
use Rattle.actor_turn.specs.Ready.{IsReady}
use Rattle.actor_turn.specs.declared.gear.RowGear.{RowGear}
use Rattle.actor_turn.specs.declared.side.SideGear.{SideGear}
use Rattle.run_gear.specs.IsGear.{IsGear}
use Rattle.run_gear.specs.declared.gear.Gear.{Gear}
use Rattle.run_gear.proofs.Boundaries.{boundary_start}
use Rattle.phase_engine.specs.RunGear.{IsRunGear, IsAt, places_of}
use Rattle.phase_engine.proofs.TimesLaws.{half_first}

module _ {P N : Type 0} where
  fresh_places : (plan : PlanView P N) (w : World P N) → IsFreshWorld plan.parts plan.links (start_of plan).ports (link_wires plan) w → places_of w ≡ whole_world (start_of plan)
  fresh_places plan w is = places_are (alls w.parts.items) (alls w.links.items) (alls w.rows.ports) (ap (λ l. alls l) is.parts_are) (ap (λ l. alls l) is.links_are) (ap (λ (r : RowsView). alls r.ports) is.rows_are)
    where
      places_are : (a : List (Option P)) (b : List (Option N)) (c : List (Option PortView)) → a ≡ alls plan.parts → b ≡ alls plan.links → c ≡ alls (start_of plan).ports → (let x : WorldPlaces P N = record { parts = a; links = b; ports = c } in x ≡ whole_world (start_of plan))
      places_are a b c e f h = cc

  pub at_start : (mp : Machine P) (mn : Machine N) (vp : P → Type 0) (vn : N → Type 0) (plan : PlanView P N) (start : Start P N) (w : World P N) (times : List (Option Time)) → IsFreshWorld plan.parts plan.links (start_of plan).ports (link_wires plan) w → start ≡ opening plan → times ≡ replicate (length plan.parts + length plan.links) (Some (record { 0 = 0 })) → IsAt mp mn plan start 0 w times
  at_start mp mn vp vn plan start w times fresh e first = subst (λ s. IsAt mp mn plan s 0 w times) (sym e)
      (let n = length plan.parts in
      let m = length plan.links in
      boundary_start mp mn plan (part_wires plan) (link_wires plan) (opening plan) (places_of w) (half_of 0 n times) (half_of n m times) refl (fresh_places plan w fresh) (half_first 0 n (n + m) times (omega arith) first) (half_first n m (n + m) times (omega arith) first))

  pub gear_start : (mp : Machine P) (mn : Machine N) (vp : P → Type 0) (vn : N → Type 0) (plan : PlanView P N) (start : Start P N) (w : World P N) (o : Gear) (g : RowGear) → IsFreshWorld plan.parts plan.links (start_of plan).ports (link_wires plan) w → start ≡ opening plan → IsGear mp mn vp vn plan (opening plan) o →
      g.parts ≡ o.parts → g.links ≡ o.links → g.recs ≡ o.recs → ((rows : RowsView) → o.links.wiring ≡ rows.wires → rows.seen ≡ map face_of rows.ports → IsReady g (length o.parts.wiring.own) (length o.links.wiring.own) rows) → IsRunGear mp mn vp vn plan start w g
  gear_start mp mn vp vn plan start w o g fresh e is parts links recs ready = subst (λ s. IsRunGear mp mn vp vn plan s w g) (sym e)
      (let rows : w.rows ≡ record { ports = (start_of plan).ports; seen = map face_of (start_of plan).ports; wires = link_wires plan } = fresh.rows_are in
      let fit = is.fitted.parts_fit.same in
      let fit2 = is.fitted.links_fit.same in
      let part_count : length o.parts.wiring.own ≡ length w.parts.items = ap (λ x. length x.own) is.part_wires_are ∙ fit ∙ sym (ap length fresh.parts_are) in
      let link_count : length o.links.wiring.own ≡ length w.links.items = ap (λ x. length x.own) is.link_wires_are ∙ fit2 ∙ sym (ap length fresh.links_are) in
      let here = ready w.rows (is.link_wires_are ∙ sym (ap (λ (r : RowsView). r.wires) rows)) (ap (λ (r : RowsView). r.seen) rows ∙ sym (ap (λ (r : RowsView). map face_of r.ports) rows)) in
      record {
        part_wires_are = ap (λ (s : SideGear). s.wiring) parts ∙ is.part_wires_are;
        link_wires_are = ap (λ (s : SideGear). s.wiring) links ∙ is.link_wires_are;
        fitted = subst (λ (r : RecView). Fitted (system_from mp mn plan (opening plan)) vp vn r.room r.room g.parts.periods.items g.links.periods.items) (sym recs)
            (subst (λ (s : SideGear). Fitted (system_from mp mn plan (opening plan)) vp vn o.recs.room o.recs.room s.periods.items g.links.periods.items) (sym parts)
            (subst (λ (s : SideGear). Fitted (system_from mp mn plan (opening plan)) vp vn o.recs.room o.recs.room o.parts.periods.items s.periods.items) (sym links) is.fitted));
        ready = subst (λ n. IsReady g n (length w.links.items) w.rows) part_count (subst (λ n. IsReady g (length o.parts.wiring.own) n w.rows) link_count here);
        enough = subst (λ (r : RecView). 64 * (own_to (part_wires plan) (length plan.parts) + own_to (link_wires plan) (length plan.links)) ≤ r.room) (sym recs) is.enough;
      })

  pub counted_actors : (mp : Machine P) (mn : Machine N) (vp : P → Type 0) (vn : N → Type 0) (plan : PlanView P N) (o : Gear) → IsGear mp mn vp vn plan (opening plan) o → (times : List (Option Time)) (count : ℕ) → times ≡ replicate count (Some (record { 0 = 0 })) → count ≡ length o.parts.periods.items + length o.links.periods.items → times ≡ replicate (length plan.parts + length plan.links) (Some (record { 0 = 0 }))
  counted_actors mp mn vp vn plan o is times count e f =
      let a = is.fitted.part_count in
      let b = is.fitted.link_count in
      e ∙ ap (λ n. replicate n (Some (record { 0 = 0 }))) (let z : count ≡ length plan.parts + length plan.links = omega (arith, a, b, f) in z)
