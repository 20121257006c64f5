-- The gear of a run at one time.
use Rattle.std.proofs.Common.{◌≡◌, ℕ, ◌+◌, ◌*◌, ◌≤◌, List, length, sym, ◌∙◌, ap, subst}
use Rattle.std.specs.Prelude.{Option}
use Rattle.sim_base.specs.declared.time.Time.{Time}
use Rattle.tick_law.specs.Machine.{Machine}
use Rattle.tick_law.specs.PlanView.{PlanView, part_wires, link_wires, system_from}
use Rattle.tick_law.specs.SerialLoop.{Start}
use Rattle.model_laws.specs.WellFormed.{system}
use Rattle.model_laws.specs.Outcome.{own_to}
use Rattle.model_laws.specs.Fitted.{Fitted}
use Rattle.model_laws.specs.Boundary.{IsBoundary}
use Rattle.model_laws.specs.SideTimes.{half_of}
use Rattle.port_rows.specs.declared.world.World.{World}
use Rattle.actor_turn.specs.Side.{AreInOrder, times_of}
use Rattle.actor_turn.specs.Act.{whole}
use Rattle.due_pass.specs.Time.{run_of}
use Rattle.actor_turn.specs.Ready.{IsReady}
use Rattle.actor_turn.specs.declared.gear.RowGear.{RowGear}
use Rattle.actor_turn.specs.declared.side.SideGear.{SideGear}
use Rattle.phase_engine.specs.RunGear.{IsRunGear, IsAt}

part_times : (a b : SideGear) (all n : ℕ) (next : List (Option Time)) → AreInOrder a b all → length a.periods.items ≡ n → times_of a next ≡ half_of 0 n next
part_times a b all n next order long = ap (λ f. half_of f (length a.periods.items) next) order.start ∙ ap (λ k. half_of 0 k next) long

link_times : (a b : SideGear) (all n m : ℕ) (next : List (Option Time)) → AreInOrder a b all → length a.periods.items ≡ n → length b.periods.items ≡ m → times_of b next ≡ half_of n m next
link_times a b all n m next order long far = ap (λ f. half_of f (length b.periods.items) next) (order.then ∙ long) ∙ ap (λ k. half_of n k next) far

module _ {P N : Type 0} where
  run_is : (mp : Machine P) (mn : Machine N) (plan : PlanView P N) (start : Start P N) (a b : SideGear) → a.wiring ≡ part_wires plan → b.wiring ≡ link_wires plan → run_of mp mn a b start ≡ system_from mp mn plan start
  run_is mp mn plan start a b e f = ap (λ w. system mp mn w b.wiring start) e ∙ ap (λ w. system mp mn (part_wires plan) w start) f

  boundary_is : (mp : Machine P) (mn : Machine N) (vp : P → Type 0) (vn : N → Type 0) (plan : PlanView P N) (start : Start P N) (t : ℕ) (w : World P N) (a b : SideGear) (room all : ℕ) (next : List (Option Time)) →
      Fitted (system_from mp mn plan start) vp vn room room a.periods.items b.periods.items → AreInOrder a b all → a.wiring ≡ part_wires plan → b.wiring ≡ link_wires plan →
      (let whole_is = whole w.parts.items w.links.items w.rows.ports in
      IsBoundary (run_of mp mn a b start) t whole_is (times_of a next) (times_of b next)
      ≡ IsBoundary (system_from mp mn plan start) t whole_is (half_of 0 (length start.world.parts) next) (half_of (length start.world.parts) (length start.world.links) next))
  boundary_is mp mn vp vn plan start t w a b room all next fitted order e f =
      let wide = whole w.parts.items w.links.items w.rows.ports in
      ap (λ r. IsBoundary r t wide (times_of a next) (times_of b next)) (run_is mp mn plan start a b e f)
      ∙ ap (λ l. IsBoundary (system_from mp mn plan start) t wide l (times_of b next)) (part_times a b all (length start.world.parts) next order fitted.part_count)
      ∙ ap (λ l. IsBoundary (system_from mp mn plan start) t wide (half_of 0 (length start.world.parts) next) l) (link_times a b all (length start.world.parts) (length start.world.links) next order fitted.part_count fitted.link_count)

  -- the gear that is handed to one time: that of the run, with records of its own
  pub asked : (mp : Machine P) (mn : Machine N) (vp : P → Type 0) (vn : N → Type 0) (plan : PlanView P N) (start : Start P N) (t : ℕ) (w : World P N) (g : RowGear) → IsRunGear mp mn vp vn plan start w g → IsAt mp mn plan start t w g.next →
      Fitted (run_of mp mn g.parts g.links start) vp vn g.recs.room g.recs.room g.parts.periods.items g.links.periods.items
      × IsBoundary (run_of mp mn g.parts g.links start) t (whole w.parts.items w.links.items w.rows.ports) (times_of g.parts g.next) (times_of g.links g.next)
      × (64 * (own_to g.parts.wiring (length start.world.parts) + own_to g.links.wiring (length start.world.links)) ≤ g.recs.room)
  asked mp mn vp vn plan start t w g is at =
      let same = run_is mp mn plan start g.parts g.links is.part_wires_are is.link_wires_are in (
        subst (λ r. Fitted r vp vn g.recs.room g.recs.room g.parts.periods.items g.links.periods.items) (sym same) is.fitted,
        subst (λ x. x) (sym (boundary_is mp mn vp vn plan start t w g.parts g.links g.recs.room (length g.next) g.next is.fitted is.ready.order is.part_wires_are is.link_wires_are)) at,
        subst (λ x. 64 * (own_to x (length start.world.parts) + own_to g.links.wiring (length start.world.links)) ≤ g.recs.room) (sym is.part_wires_are)
            (subst (λ x. 64 * (own_to (part_wires plan) (length start.world.parts) + own_to x (length start.world.links)) ≤ g.recs.room) (sym is.link_wires_are) is.enough),
      )

  -- what one time leaves
  pub kept : (mp : Machine P) (mn : Machine N) (vp : P → Type 0) (vn : N → Type 0) (plan : PlanView P N) (start : Start P N) (w w2 : World P N) (g g2 : RowGear) → IsRunGear mp mn vp vn plan start w g → g2.parts ≡ g.parts → g2.links ≡ g.links → g2.recs.room ≡ g.recs.room →
      IsReady g2 (length w2.parts.items) (length w2.links.items) w2.rows → IsRunGear mp mn vp vn plan start w2 g2
  kept mp mn vp vn plan start w w2 g g2 is parts links room ready = record {
    part_wires_are = ap (λ (s : SideGear). s.wiring) parts ∙ is.part_wires_are;
    link_wires_are = ap (λ (s : SideGear). s.wiring) links ∙ is.link_wires_are;
    fitted = subst (λ n. Fitted (system_from mp mn plan start) vp vn n n g2.parts.periods.items g2.links.periods.items) (sym room)
        (subst (λ (s : SideGear). Fitted (system_from mp mn plan start) vp vn g.recs.room g.recs.room s.periods.items g2.links.periods.items) (sym parts)
        (subst (λ (s : SideGear). Fitted (system_from mp mn plan start) vp vn g.recs.room g.recs.room g.parts.periods.items s.periods.items) (sym links) is.fitted));
    ready = ready;
    enough = subst (λ n. 64 * (own_to (part_wires plan) (length start.world.parts) + own_to (link_wires plan) (length start.world.links)) ≤ n) (sym room) is.enough;
  }

  -- and where the run is then
  pub then_at : (mp : Machine P) (mn : Machine N) (vp : P → Type 0) (vn : N → Type 0) (plan : PlanView P N) (start : Start P N) (t : ℕ) (w w2 : World P N) (g g2 : RowGear) → IsRunGear mp mn vp vn plan start w g →
      IsBoundary (run_of mp mn g.parts g.links start) t (whole w2.parts.items w2.links.items w2.rows.ports) (times_of g.parts g2.next) (times_of g.links g2.next) → IsAt mp mn plan start t w2 g2.next
  then_at mp mn vp vn plan start t w w2 g g2 is was =
      subst (λ x. x) (boundary_is mp mn vp vn plan start t w2 g.parts g.links g.recs.room (length g.next) g2.next is.fitted is.ready.order is.part_wires_are is.link_wires_are) was

  pub same_run : (mp : Machine P) (mn : Machine N) (vp : P → Type 0) (vn : N → Type 0) (plan : PlanView P N) (start : Start P N) (w : World P N) (g : RowGear) → IsRunGear mp mn vp vn plan start w g → run_of mp mn g.parts g.links start ≡ system_from mp mn plan start
  same_run mp mn vp vn plan start w g is = run_is mp mn plan start g.parts g.links is.part_wires_are is.link_wires_are
