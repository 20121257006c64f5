-- What a floor's state is when an actor is back.
use Rattle.std.proofs.Common.{◌≡◌, ℕ, ◌+◌, ◌<◌, List, length, set, ◌∙◌, ap, arith}
use Rattle.std.specs.Prelude.{Option, Bool, true, false, ◌||◌}
use Rattle.sim_base.specs.Edge.{edge_from}
use Rattle.sim_base.specs.declared.time.Time.{Time}
use Rattle.tick_law.specs.Wires.{Wires, own_of}
use Rattle.tick_law.specs.SerialLoop.{System}
use Rattle.tick_law.specs.NextTime.{woken}
use Rattle.tick_law.specs.Course.{part_course, link_course, flag, period}
use Rattle.model_laws.proofs.ActorByActor.{map_index_ext}
use Rattle.actor_turn.specs.Side.{edge_of, times_of}
use Rattle.away_rows.specs.declared.marks.Marks.{Marks}
use Rattle.away_rows.specs.Marks.{finished}
use Rattle.hub_laws.specs.HubState.{HubState}
use Rattle.hub_laws.specs.Events.{next_left, shows_some, woken_all, part_finished, link_finished}
use Rattle.hub_floor.specs.declared.floor.Floor.{Floor}
use Rattle.hub_floor.specs.Floor.{hub_state, IsOf}

woken_same : (test test' : ℕ → Bool) (edge edge' : ℕ → ℕ) (times : List (Option ℕ)) → ((j : ℕ) → j < length times → test j ≡ test' j) → ((j : ℕ) → j < length times → edge j ≡ edge' j) → woken_all test edge times ≡ woken_all test' edge' times
woken_same test test' edge edge' times a b = map_index_ext (λ j o. woken (test j) (edge j) o) (λ j o. woken (test' j) (edge' j) o) 0 times
    (λ k x l. ap (λ y. woken y (edge k) x) (a k (omega (arith, l))) ∙ ap (λ e. woken (test' k) e x) (b k (omega (arith, l))))

state_back : (s : HubState) (m m' : Marks) (a a' b b' : List (Option ℕ)) (x x' : Bool) → m ≡ m' → a ≡ a' → b ≡ b' → x ≡ x' →
    (let u : HubState = record s { part_marks = m; part_next = a; link_next = b; stirred = x } in let v : HubState = record s { part_marks = m'; part_next = a'; link_next = b'; stirred = x' } in u ≡ v)
state_back s m m' a a' b b' x x' e f g h = cc

state_back_link : (s : HubState) (m m' : Marks) (a a' b b' : List (Option ℕ)) (x x' : Bool) → m ≡ m' → a ≡ a' → b ≡ b' → x ≡ x' →
    (let u : HubState = record s { link_marks = m; part_next = a; link_next = b; stirred = x } in let v : HubState = record s { link_marks = m'; part_next = a'; link_next = b'; stirred = x' } in u ≡ v)
state_back_link s m m' a a' b b' x x' e f g h = cc

module _ {P N : Type 0} where
  pub part_event : (r : System P N) (vp : P → Type 0) (vn : N → Type 0) (until : ℕ) (f : Floor P N) (i : ℕ) (marks : Marks) (next : List (Option Time)) (stirred : Bool) → IsOf r vp vn until f → length (times_of f.link_side f.next) ≡ length r.start.world.links →
      marks ≡ finished f.part_marks i →
      times_of f.part_side next ≡ set (times_of f.part_side f.next) i (next_left (part_course r) i f.at) →
      times_of f.link_side next ≡ woken_all (λ j. shows_some false (part_course r) i f.at (own_of f.link_side.wiring j)) (edge_of f.link_side f.at) (times_of f.link_side f.next) →
      stirred ≡ (f.stirred || flag (part_course r) i f.at) →
      (let u : HubState = record (hub_state f) { part_marks = marks; part_next = times_of f.part_side next; link_next = times_of f.link_side next; stirred = stirred } in u ≡ part_finished r (hub_state f) i)
  part_event r vp vn until f i marks next stirred is long m own woke flags =
      state_back (hub_state f) marks _ (times_of f.part_side next) _ (times_of f.link_side next) _ stirred _ m own
      (woke ∙ woken_same (λ j. shows_some false (part_course r) i f.at (own_of f.link_side.wiring j)) (λ j. shows_some false (part_course r) i f.at (own_of r.link_wires j)) (edge_of f.link_side f.at) (λ j. edge_from (period (link_course r) j) f.at) (times_of f.link_side f.next)
      (λ j l. ap (λ (w : Wires). shows_some false (part_course r) i f.at (own_of w j)) is.link_wires_are)
      (λ j l. ap (λ p. edge_from p f.at) (is.fitted.link_period j (omega (arith, l, long))).0))
      flags

  pub link_event : (r : System P N) (vp : P → Type 0) (vn : N → Type 0) (until : ℕ) (f : Floor P N) (i : ℕ) (marks : Marks) (next : List (Option Time)) (stirred : Bool) → IsOf r vp vn until f → length (times_of f.part_side f.next) ≡ length r.start.world.parts →
      marks ≡ finished f.link_marks i →
      times_of f.link_side next ≡ set (times_of f.link_side f.next) i (next_left (link_course r) i f.at) →
      times_of f.part_side next ≡ woken_all (λ j. shows_some true (link_course r) i f.at (own_of f.part_side.wiring j)) (edge_of f.part_side (f.at + 1)) (times_of f.part_side f.next) →
      stirred ≡ (f.stirred || flag (link_course r) i f.at) →
      (let u : HubState = record (hub_state f) { link_marks = marks; part_next = times_of f.part_side next; link_next = times_of f.link_side next; stirred = stirred } in u ≡ link_finished r (hub_state f) i)
  link_event r vp vn until f i marks next stirred is long m own woke flags =
      state_back_link (hub_state f) marks _ (times_of f.part_side next) _ (times_of f.link_side next) _ stirred _ m
      (woke ∙ woken_same (λ j. shows_some true (link_course r) i f.at (own_of f.part_side.wiring j)) (λ j. shows_some true (link_course r) i f.at (own_of r.part_wires j)) (edge_of f.part_side (f.at + 1)) (λ j. edge_from (period (part_course r) j) (f.at + 1)) (times_of f.part_side f.next)
      (λ j l. ap (λ (w : Wires). shows_some true (link_course r) i f.at (own_of w j)) is.part_wires_are)
      (λ j l. ap (λ p. edge_from p (f.at + 1)) (is.fitted.part_period j (omega (arith, l, long))).0))
      own flags
