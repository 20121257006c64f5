-- From the boundary that a run begins at everyone steps, and below it nobody does.
use Rattle.std.specs.Prelude.{◌≡◌, ℕ, ◌+◌, ◌<◌, ◌≤◌, ◌&&◌, nat_le, length, Some, true, false, slice_get, refl}
use Rattle.std.proofs.Common.{zero, suc, ◌∙◌, ap, arith, inl, inr}
use Rattle.std.proofs.lemmas.Bool.{cases_lt}
use Rattle.std.proofs.lemmas.Bool.Decides.{nat_tests}
use Rattle.tick_law.specs.Wires.{own_of, Wired}
use Rattle.tick_law.specs.Pass.{gather, has_edge, pass, everyone, first}
use Rattle.tick_law.specs.Outcomes.{outcome, flag_of}
use Rattle.tick_law.specs.SerialLoop.{System, begun, pick, world_at, mid, parts_of, links_of}
use Rattle.tick_law.specs.NextTime.{due_is}
use Rattle.tick_law.specs.Course.{Course, after, flag, period, awake_at, awake}
use Rattle.model_laws.proofs.SleepersChangeNothing.{Still}
use Rattle.model_laws.proofs.ActorByActor.{pass_none}
use Rattle.model_laws.proofs.RestingActors.{state_rests, ports_rest}
use Rattle.model_laws.proofs.SideReturned.{side_parts, side_links}

begun_true : (from t : ℕ) → from ≤ t → nat_le from t ≡ true
begun_true from t l = grind (arith, nat_tests, l)

pub begun_false : (from t : ℕ) → t < from → nat_le from t ≡ false
begun_false from t l = grind (arith, nat_tests, l)

pub begun_all : (from t : ℕ) → from ≤ t → begun from t ≡ everyone
begun_all from t l = ap (λ b. λ (i : ℕ). b) (begun_true from t l)

begun_none : (from t : ℕ) → t < from → begun from t ≡ first zero
begun_none from t l = ap (λ b. λ (i : ℕ). b) (begun_false from t l)

module _ {S : Type 0} where
  pub after_all : (c : Course S) (t : ℕ) → c.from ≤ t → after c t ≡ pass c.machine c.wires everyone t (c.before t)
  after_all c t l = ap (λ who. pass c.machine c.wires who t (c.before t)) (begun_all c.from t l)

  pub after_none : (c : Course S) (t : ℕ) → t < c.from → after c t ≡ c.before t
  after_none c t l = ap (λ who. pass c.machine c.wires who t (c.before t)) (begun_none c.from t l) ∙ pass_none c.machine c.wires t (c.before t)

  pub flag_all : (c : Course S) (i t : ℕ) → c.from ≤ t → flag c i t ≡ flag_of (outcome c.machine c.wires everyone t (c.before t) i)
  flag_all c i t l =
      ap (λ b. pick b (flag_of (outcome c.machine c.wires (begun c.from t) t (c.before t) i)) (due_is (c.first i) (t + period c i))) (begun_true c.from t l)
      ∙ ap (λ who. flag_of (outcome c.machine c.wires who t (c.before t) i)) (begun_all c.from t l)

  pub flag_none : (c : Course S) (i t : ℕ) → t < c.from → flag c i t ≡ due_is (c.first i) (t + period c i)
  flag_none c i t l = ap (λ b. pick b (flag_of (outcome c.machine c.wires (begun c.from t) t (c.before t) i)) (due_is (c.first i) (t + period c i))) (begun_false c.from t l)

  pub awake_from : (c : Course S) (i t : ℕ) → c.from ≤ t → awake c i t ≡ awake_at c i (period c i) t
  awake_from c i t l = ap (λ b. b && awake_at c i (period c i) t) (begun_true c.from t l)

  -- no step, or a still one, or one below the boundary that the run begins at
  pub state_stays : (c : Course S) (i t : ℕ) (s : S) → slice_get (c.before t).states i ≡ Some s → (c.from ≤ t → has_edge c.machine t s ≡ true → Still c.machine c.wires t (c.before t).ports i s) → slice_get (after c t).states i ≡ Some s
  state_stays c i t s at still = elim (cases_lt t c.from) [
    | inl l ↦ ap (λ (h : _). slice_get h.states i) (after_none c t l) ∙ at
    | inr g ↦ (let l : c.from ≤ t = omega arith in ap (λ (h : _). slice_get h.states i) (after_all c t l) ∙ state_rests c.machine c.wires t (c.before t) i s at (still l))
  ]

  pub ports_stay : (c : Course S) (i t : ℕ) (s : S) → Wired c.wires (length (c.before t).ports) → slice_get (c.before t).states i ≡ Some s → (c.from ≤ t → has_edge c.machine t s ≡ true → Still c.machine c.wires t (c.before t).ports i s) → gather (after c t).ports (own_of c.wires i) ≡ gather (c.before t).ports (own_of c.wires i)
  ports_stay c i t s wired at still = elim (cases_lt t c.from) [
    | inl l ↦ ap (λ (h : _). gather h.ports (own_of c.wires i)) (after_none c t l)
    | inr g ↦ (let l : c.from ≤ t = omega arith in ap (λ (h : _). gather h.ports (own_of c.wires i)) (after_all c t l) ∙ ports_rest c.machine c.wires t (c.before t) i s wired at (still l))
  ]

module _ {P N : Type 0} where
  -- below the boundary that a run begins at its world is the one that it begins with
  pub mid_begin : (r : System P N) (t : ℕ) → t < r.start.at → mid r t ≡ world_at r t
  mid_begin r t l = side_parts (world_at r t) _ (ap (λ who. pass r.part r.part_wires who t (parts_of (world_at r t))) (begun_none r.start.at t l) ∙ pass_none r.part r.part_wires t (parts_of (world_at r t)))

  then_begin : (r : System P N) (t : ℕ) → t < r.start.at → world_at r (suc t) ≡ mid r t
  then_begin r t l = side_links (mid r t) _ (ap (λ who. pass r.link r.link_wires who t (links_of (mid r t))) (begun_none r.start.at t l) ∙ pass_none r.link r.link_wires t (links_of (mid r t)))

  pub world_begin : (r : System P N) (t : ℕ) → t ≤ r.start.at → world_at r t ≡ r.start.world
  world_begin r zero l = refl
  world_begin r (suc t) l = then_begin r t (omega arith) ∙ mid_begin r t (omega arith) ∙ world_begin r t (omega arith)
