-- Next times of one side, and how they go on.
use Rattle.std.specs.Prelude.{◌≡◌, ◌≢◌, ℕ, ◌+◌, ◌-◌, ◌*◌, ◌/◌, ◌%◌, ◌<◌, ◌≤◌, ◌==◌, ◌||◌, length, Option, Some, None, Bool, true, false, slice_get, refl}
use Rattle.std.proofs.Common.{zero, suc, sym, ◌∙◌, ap, subst, arith}
use Rattle.std.proofs.lemmas.Bool.Decides.{nat_tests}
use Rattle.tick_law.specs.Pass.{has_edge}
use Rattle.model_laws.proofs.OneMoreActor.{is_same, is_other}
use Rattle.sim_base.specs.Edge.{edge_from, edge_past}
use Rattle.tick_law.specs.NextTime.{any_from, woken, next_at, due_is, times}
use Rattle.model_laws.proofs.NextEdge.{next_some, edge_between, edge_here, edge_after, woken_or}
use Rattle.tick_law.specs.Course.{Course, flag, faced, period, due_at, due_after, timer, awake_at, awake}
use Rattle.model_laws.proofs.SideCourse.{IsCourse}
use Rattle.model_laws.proofs.FacesKept.{or_left, or_right}
use Rattle.model_laws.proofs.StepsFromStart.{awake_from, state_stays}
use Rattle.model_laws.proofs.AwakeOrQuiet.{At, at_of, asleep_stays, awake_is, cycle_of, cycle_then, edge_before, mod_edge, flag_is, rested, is_zero, awake_or_quiet}
use Rattle.tick_law.specs.Course.{next_in, ready, ticked}

mod_within : (d p : ℕ) → 0 < p → d % p < p
mod_within d p b = omega arith

pub edge_at : (d p : ℕ) → d % p ≡ 0 → edge_from p d ≡ d
edge_at d p z = ap (edge_past p d) z

pub edge_le : (d p : ℕ) → 0 < p → (edge_from p (d + 1) ≤ d + p) × (d < edge_from p (d + 1))
edge_le d p b = here (d % p == 0) refl
  where
    here : (x : Bool) → (d % p == 0) ≡ x → (edge_from p (d + 1) ≤ d + p) × (d < edge_from p (d + 1))
    here true e = let f : edge_from p (d + 1) ≡ d + p = edge_after d p b (is_same (d % p) 0 e) in (omega arith, omega arith)
    here false e =
        let f : edge_from p (d + 1) ≡ d + (p - d % p) = edge_between d p b (λ g. is_other (d % p) 0 e g) in
        let g : d % p < p = mod_within d p b in
        (omega arith, omega arith)

woken_false : (b : Bool) (e : ℕ) (o : Option ℕ) → b ≡ false → woken b e o ≡ o
woken_false b e o f = rw f refl

due_self : (t : ℕ) → due_is (Some t) t ≡ true
due_self t = let e : (t == t) ≡ true = grind (arith, nat_tests) in e

or_no : (b : Bool) → (b || false) ≡ b
or_no true = refl
or_no false = refl

times_is : (o : Option ℕ) (n p : ℕ) → 0 < p → due_is (times p o) (n * p) ≡ due_is o n
times_is None n p b = refl
times_is (Some k) n p b = here (k == n) refl
  where
    here : (x : Bool) → (k == n) ≡ x → (k * p == n * p) ≡ (k == n)
    here true e = let f : k ≡ n = is_same k n e in let g : (n * p == n * p) ≡ true = due_self (n * p) in subst (λ j. (j * p == n * p) ≡ (j == n)) (sym f) (g ∙ sym (due_self n))
    here false e = apart (k * p == n * p) refl
      where
        apart : (y : Bool) → (k * p == n * p) ≡ y → (k * p == n * p) ≡ (k == n)
        apart true f = absurd (is_other k n e (sym (cycle_of k p b) ∙ ap (λ x. x / p) (is_same (k * p) (n * p) f) ∙ cycle_of n p b))
        apart false f = f ∙ sym e

woken_awake : (f c d : Bool) (t n p : ℕ) (o : Option ℕ) → due_is (times p o) t ≡ due_is o n → due_is (woken (f || c) t (times p o)) t ≡ (f || (c || due_is o n))
woken_awake true c d t n p o e = due_self t
woken_awake false true d t n p o e = due_self t
woken_awake false false d t n p o e = e

module _ {S : Type 0} where
  -- a step of its own: a period on with the flag, else its timer
  pub ticked_edge : (c : Course S) (i d : ℕ) → 0 < period c i → d % period c i ≡ 0 → ticked c i (d + 1) ≡ woken (flag c i d) (d + period c i) (timer c i d)
  ticked_edge c i d b z =
      let p = period c i in
      ap (λ g. next_in c i g (d + 1)) (let w : d + 1 - 1 ≡ d = omega arith in w)
      ∙ ap (next_at p (flag c i) (faced c i) (timer c i) d) (edge_after d p b z)
      ∙ next_some p (flag c i) (faced c i) (timer c i) d (d + p) d 0 (omega arith) (omega arith) (omega arith)
      ∙ ap (λ x. woken x (d + p) (timer c i d)) (or_no (flag c i d))

  -- no edge: it stays
  pub ticked_between : (c : Course S) (i d : ℕ) → 0 < period c i → d % period c i ≢ 0 → ticked c i (d + 1) ≡ ready c i d
  ticked_between c i d b n =
      let p = period c i in
      ap (λ g. next_in c i g (d + 1)) (let w : d + 1 - 1 ≡ d = omega arith in w)
      ∙ ap (next_at p (flag c i) (faced c i) (timer c i) d) (edge_between d p b n ∙ sym (edge_here d p n))

  -- a gap: a changed face wakes it at its first edge from there
  pub ready_next : (c : Course S) (i d : ℕ) → 0 < period c i → ready c i (d + 1) ≡ woken (faced c i d) (edge_from (period c i) (d + 1)) (ticked c i (d + 1))
  ready_next c i d b =
      let p = period c i in
      let e = edge_from p (d + 1) in
      let l = edge_le d p b in
      let q = e - p in
      next_some p (flag c i) (faced c i) (timer c i) (d + 1) e q (suc (d - q)) (omega (arith, l)) refl (omega (arith, l))
      ∙ ap (λ x. woken (flag c i q || (faced c i x || any_from (faced c i) q (d - q))) e (timer c i q)) (let w : q + (d - q) ≡ d = omega (arith, l) in w)
      ∙ woken_or (flag c i q) (faced c i d) (any_from (faced c i) q (d - q)) e (timer c i q)
      ∙ ap (woken (faced c i d) e) (sym (ap (λ g. next_in c i g (d + 1)) (let w : d + 1 - 1 ≡ d = omega arith in w) ∙ next_some p (flag c i) (faced c i) (timer c i) d e q (d - q) (omega (arith, l)) refl refl))

  -- at an edge: awake is that the next time is now
  pub awake_ready : (c : Course S) (i t : ℕ) → c.from ≤ t → 0 < period c i → t % period c i ≡ 0 → awake c i t ≡ due_is (ready c i t) t
  awake_ready c i zero from b z = awake_from c i 0 from ∙ sym (ap (λ x. due_is (next_at (period c i) (flag c i) (faced c i) (timer c i) 0 x) 0) (edge_at 0 (period c i) z))
  awake_ready c i (suc u) from b z = awake_from c i (suc u) from ∙ sym (at (period c i) refl b z)
    where
      at : (p : ℕ) → p ≡ period c i → 0 < p → suc u % p ≡ 0 → due_is (next_at p (flag c i) (faced c i) (timer c i) (suc u) (edge_from p (suc u))) (suc u) ≡ awake_at c i p (suc u)
      at p e b z =
          let n = edge_before (suc u) p b z (omega arith) in
          let q = n.0 * p in
          let back : suc u - p ≡ q = omega (arith, n.1) in
          let cyc : suc u / p ≡ suc n.0 = ap (λ t. t / p) n.1 ∙ cycle_then n.0 p b in
          let t_is : suc n.0 * p ≡ suc u = (let w : suc n.0 * p ≡ n.0 * p + p = omega arith in w) ∙ sym n.1 in
          let same : due_is (times p (due_after c i q)) (suc u) ≡ due_is (due_after c i q) (suc n.0) = ap (due_is (times p (due_after c i q))) (sym t_is) ∙ times_is (due_after c i q) (suc n.0) p b in
          ap (λ x. due_is (next_at p (flag c i) (faced c i) (timer c i) (suc u) x) (suc u)) (ap (edge_past p (suc u)) z)
          ∙ ap (λ o. due_is o (suc u)) (next_some p (flag c i) (faced c i) (timer c i) (suc u) (suc u) q p (omega arith) back (omega (arith, n.1)))
          ∙ ap (λ x. due_is (woken (flag c i q || any_from (faced c i) q p) (suc u) (times x (due_after c i q))) (suc u)) (sym e)
          ∙ woken_awake (flag c i q) (any_from (faced c i) q p) false (suc u) (suc n.0) p (due_after c i q) same
          ∙ sym (awake_is c i p q (suc u) (omega arith) back ∙ ap (λ k. flag c i q || (any_from (faced c i) q p || due_is (due_after c i q) k)) cyc)

above_zero : (d : ℕ) → (d ≡ 0 → ⊥) → 0 < d
above_zero zero h = absurd (h refl)
above_zero (suc d) h = omega arith

pub woken_some : (b : Bool) (t : ℕ) (o : Option ℕ) → due_is (woken b t o) t ≡ false → woken b t o ≡ o
woken_some true t o e = absurd (let f : true ≡ false = sym (due_self t) ∙ e in cc)
woken_some false t o e = refl

after_due : (o : Option ℕ) (n t : ℕ) → ((t : ℕ) → o ≡ Some t → n < t) → due_is o (suc n) ≡ false → o ≡ Some t → suc n < t
after_due o n t later e f = let l = later t f in let g : due_is (Some t) (suc n) ≡ false = ap (λ x. due_is x (suc n)) (sym f) ∙ e in grind (arith, nat_tests, l, g)

module _ {S : Type 0} where
  -- who is not due keeps its next time
  pub ticked_sleeps : (c : Course S) (valid : S → Type 0) (end i d : ℕ) → IsCourse c valid end → i < length (c.before 0).states → d ≤ end → c.from ≤ d → 0 < period c i → due_is (ready c i d) d ≡ false → ticked c i (d + 1) ≡ ready c i d
  ticked_sleeps c valid end i d is b l from pos rests = by_edge (d % period c i == 0) refl
    where
      at_edge : (p : ℕ) → p ≡ period c i → 0 < p → d % p ≡ 0 → due_is (ready c i d) d ≡ false → ticked c i (d + 1) ≡ ready c i d
      at_edge p e pos z rests =
          let b0 : 0 < d = above_zero d (λ f. absurd (let g : true ≡ false = sym (awake_from c i d from ∙ ap (λ x. awake_at c i (period c i) x) f) ∙ awake_ready c i d from (subst (λ x. 0 < x) e pos) (ap (λ x. d % x) (sym e) ∙ z) ∙ rests in cc)) in
          let n = edge_before d p pos z b0 in
          let q = n.0 * p in
          let back : d - p ≡ q = omega (arith, n.1) in
          let m = c.machine in
          let sleeps : awake c i d ≡ false = awake_ready c i d from (subst (λ x. 0 < x) e pos) (ap (λ x. d % x) (sym e) ∙ z) ∙ rests in
          let r = at_of c valid end i q is b (omega (arith, n.1, l)) in
          let s = r.0 in
          let per : m.period s ≡ p = r.1.same ∙ sym e in
          let f = flag c i q in
          let g = any_from (faced c i) q p in
          let u = due_is (due_after c i q) (d / p) in
          let cause : (f || (g || u)) ≡ false = sym (awake_is c i p q d b0 back) ∙ ap (λ x. awake_at c i x d) e ∙ sym (awake_from c i d from) ∙ sleeps in
          let no_flag : f ≡ false = or_left f (g || u) cause in
          let rest : (g || u) ≡ false = or_right f (g || u) cause in
          let no_face : g ≡ false = or_left g u rest in
          let no_due : u ≡ false = or_right g u rest in
          let edge : has_edge m q s ≡ true = is_zero (q % m.period s) (ap (λ x. q % x) per ∙ mod_edge n.0 p pos) in
          let rest_q = rested c valid end i q s is r.1 edge (let w : c.from ≤ q + period c i = omega (arith, from, n.1, e) in w) no_flag in
          let later = asleep_stays c valid end i n.0 p s is pos (sym per) (omega (arith, n.1, l)) r.1.is rest_q.still no_face in
          let at_d : slice_get (c.before d).states i ≡ Some s = ap (λ t. slice_get (c.before t).states i) n.1 ∙ later.0 in
          let at : At c valid i d s = record { is = at_d; same = r.1.same; good = r.1.good; own = r.1.own; all = r.1.all } in
          let edge_d : has_edge m d s ≡ true = is_zero (d % m.period s) (ap (λ x. d % x) per ∙ z) in
          let idle_d = awake_or_quiet c valid end i d s is b l from at edge_d sleeps in
          let flag_d : flag c i d ≡ false = flag_is c i d s from at_d edge_d ∙ idle_d.flag in
          let qc : q / period c i ≡ n.0 = ap (λ x. q / x) (sym e) ∙ cycle_of n.0 p pos in
          let dc : d / period c i ≡ suc n.0 = ap (λ x. d / x) (sym e) ∙ ap (λ t. t / p) n.1 ∙ cycle_then n.0 p pos in
          let due_q : due_after c i q ≡ m.due s n.0 = ap (λ o. due_at m (q / period c i) o) (state_stays c i q s r.1.is (λ b x. rest_q.still b)) ∙ ap (λ k. m.due s k) qc in
          let due_d : due_after c i d ≡ m.due s (suc n.0) = ap (λ o. due_at m (d / period c i) o) (state_stays c i d s at_d (λ b x. idle_d.still)) ∙ ap (λ k. m.due s k) dc in
          let none : due_is (m.due s n.0) (suc n.0) ≡ false = ap (λ o. due_is o (suc n.0)) (sym due_q) ∙ ap (λ k. due_is (due_after c i q) k) (sym (ap (λ x. d / x) e ∙ dc)) ∙ no_due in
          let steady : m.due s (suc n.0) ≡ m.due s n.0 = is.steady s n.0 (suc n.0) r.1.good (omega arith) (λ t f. after_due (m.due s n.0) n.0 t (λ k g. is.later s n.0 k r.1.good g) none f) in
          let timers : timer c i d ≡ timer c i q = ap (λ o. times (period c i) o) (due_d ∙ steady ∙ sym due_q) in
          let ready_is : ready c i d ≡ woken (f || any_from (faced c i) q (d - q)) d (timer c i q) =
          ap (λ x. next_at x (flag c i) (faced c i) (timer c i) d (edge_from x d)) (sym e)
          ∙ ap (next_at p (flag c i) (faced c i) (timer c i) d) (edge_at d p z)
          ∙ next_some p (flag c i) (faced c i) (timer c i) d d q (d - q) b0 back refl in
          let ready_timer : ready c i d ≡ timer c i q = ready_is ∙ woken_some (f || any_from (faced c i) q (d - q)) d (timer c i q) (ap (λ o. due_is o d) (sym ready_is) ∙ rests) in
          ticked_edge c i d (subst (λ x. 0 < x) e pos) (ap (λ x. d % x) (sym e) ∙ z)
          ∙ woken_false (flag c i d) (d + period c i) (timer c i d) flag_d
          ∙ timers ∙ sym ready_timer

      by_edge : (x : Bool) → (d % period c i == 0) ≡ x → ticked c i (d + 1) ≡ ready c i d
      by_edge true e = at_edge (period c i) refl pos (is_same (d % period c i) 0 e) rests
      by_edge false e = ticked_between c i d pos (λ f. is_other (d % period c i) 0 e f)
