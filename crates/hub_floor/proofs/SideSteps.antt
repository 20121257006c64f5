-- The step of an actor that is out is the one that it makes in the loop's pass.
use Rattle.std.proofs.Common.{◌≡◌, ℕ, ◌+◌, ◌*◌, ◌/◌, ◌≤◌, ◌++◌, length, sym, ◌∙◌, ap, subst}
use Rattle.std.specs.Prelude.{Some, Bool, ◌&&◌}
use Rattle.port_msg.specs.RecView.{records_at}
use Rattle.tick_law.specs.Wires.{own_of}
use Rattle.tick_law.specs.Pass.{has_edge, step_of}
use Rattle.tick_law.specs.SerialLoop.{begun}
use Rattle.tick_law.specs.Outcomes.{outcome_by, outcome_if, whats_of, flag_of}
use Rattle.tick_law.specs.Course.{Course, outcome_in}
use Rattle.model_laws.proofs.StepsFromStart.{begun_all}
use Rattle.away_rows.specs.declared.body.Body.{Body}
use Rattle.away_rows.specs.Bodies.{body_step, body_after}
use Rattle.away_rows.specs.SidePass.{IsBefore, IsAfter, state_made, ports_made}
use Rattle.hub_floor.specs.Passing.{IsTask}

module _ {S : Type 0} where
  step_made : (c : Course S) (t i : ℕ) (all_seen : Bool) (b : Body S) → IsBefore c t i all_seen b → outcome_in c i t ≡ Some (body_step c.machine t b)
  step_made c t i all_seen b is =
      ap (λ o. outcome_by c.machine c.wires (begun c.from t) t (c.before t).ports i o) is.state
      ∙ ap (λ (who : ℕ → Bool). outcome_if (who i && has_edge c.machine t b.actor) (step_of c.machine c.wires t (c.before t).ports i b.actor)) (begun_all c.from t is.begun)
      ∙ ap (λ x. outcome_if x (step_of c.machine c.wires t (c.before t).ports i b.actor)) is.edge
      ∙ ap (λ l. Some (c.machine.step b.actor l (t / c.machine.period b.actor))) (sym is.ports)

  pub steps_away : (c : Course S) (base t i : ℕ) (all_seen : Bool) (b new : Body S) (flag : Bool) → IsTask c t i all_seen b → new ≡ body_after c.machine (base + i) t b → flag ≡ (body_step c.machine t b).flag → length new.row.ports ≡ length b.row.ports → IsAfter c base t i all_seen new flag
  steps_away c base t i all_seen b new flag task is flags long =
      let was = task.before in
      let made : outcome_in c i t ≡ Some (body_step c.machine t b) = step_made c t i all_seen b was in
      record {
        state = ap state_made made ∙ ap (λ (x : Body S). Some x.actor) (sym is);
        ports = ap (λ (x : Body S). x.row.ports) is ∙ sym (ap ports_made made);
        did = ap (λ (x : Body S). x.recs.items) is ∙ ap (λ l. l ++ records_at t (base + i) (body_step c.machine t b).records) was.none ∙ sym (ap (λ o. records_at t (base + i) (whats_of o)) made);
        flag_is = flags ∙ sym (ap flag_of made);
        kit = record {
          ports = long ∙ was.kit.ports;
          seen = ap (λ (x : Body S). length x.row.seen) is ∙ was.kit.seen;
          room = subst (λ n. 64 * length (own_of c.wires i) ≤ n) (sym (ap (λ (x : Body S). x.recs.room) is)) was.kit.room;
        };
        along = λ e. ap (λ (x : Body S). x.row.seen) is ∙ was.along e;
      }
