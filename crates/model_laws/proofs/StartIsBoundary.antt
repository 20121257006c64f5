-- What an engine keeps is true of a start.
use Rattle.std.specs.Prelude.{◌≡◌, ℕ, ◌+◌, ◌-◌, ◌/◌, ◌%◌, ◌<◌, ◌≤◌, ◌⊎◌, ◌==◌, ◌||◌, List, length, Option, Some, None, Bool, true, false, slice_get, refl}
use Rattle.std.proofs.Common.{zero, suc, sym, ◌∙◌, ap, subst, arith, inl, inr}
use Rattle.sim_base.specs.declared.time.TheConstants.{LATEST_TICK}
use Rattle.sim_base.specs.Edge.{edge_from}
use Rattle.tick_law.specs.Pass.{Side}
use Rattle.tick_law.specs.Starts.{timer_at, AreNext}
use Rattle.tick_law.specs.SerialLoop.{System, whole_world, parts_of, links_of}
use Rattle.tick_law.specs.NextTime.{any_from, woken, due_is, times, next_at}
use Rattle.tick_law.specs.Course.{Course, after, flag, faced, period, due_at, timer, next_in, part_course, link_course}
use Rattle.model_laws.proofs.AwakeOrQuiet.{at_of, edge_before}
use Rattle.model_laws.proofs.StepsFromStart.{after_none, flag_none, world_begin, mid_begin}
use Rattle.model_laws.proofs.SideCourse.{IsCourse}
use Rattle.model_laws.specs.Fitted.{IsSetUp}
use Rattle.model_laws.proofs.BothCourses.{part_is, link_is}
use Rattle.model_laws.proofs.NextEdge.{next_some, edge_between, edge_after}
use Rattle.model_laws.proofs.RestingGaps.{gap_rests}
use Rattle.model_laws.proofs.NextTimesGoOn.{edge_at, edge_le}
use Rattle.model_laws.proofs.OneMoreActor.{is_same, is_other}
use Rattle.model_laws.specs.NextTable.{next_at_place}
use Rattle.model_laws.specs.Boundary.{IsBoundary}

-- behind time 0 a first edge is a period away from 0 at least
edge_far : (u p : ℕ) → 0 < p → p ≤ edge_from p (u + 1)
edge_far u p pos = here ((u + 1) % p == 0) refl
  where
    here : (b : Bool) → ((u + 1) % p == 0) ≡ b → p ≤ edge_from p (u + 1)
    here true e =
        let z = is_same ((u + 1) % p) 0 e in
        let n = edge_before (u + 1) p pos z (omega arith) in
        let f : edge_from p (u + 1) ≡ u + 1 = edge_at (u + 1) p z in
        omega (arith, n.1, f)
    here false e = over (u % p == 0) refl
      where
        over : (b : Bool) → (u % p == 0) ≡ b → p ≤ edge_from p (u + 1)
        over true g = let f : edge_from p (u + 1) ≡ u + p = edge_after u p pos (is_same (u % p) 0 g) in omega (arith, f)
        over false g =
            let f : edge_from p (u + 1) ≡ u + (p - u % p) = edge_between u p pos (λ z. is_other (u % p) 0 g z) in
            let m : u % p ≤ u = omega arith in
            omega (arith, f, m)

none_from : (test : ℕ → Bool) (a n g : ℕ) → a + n ≤ g → ((t : ℕ) → t < g → test t ≡ false) → any_from test a n ≡ false
none_from test a zero g l none = refl
none_from test a (suc n) g l none = rw (none (a + n) (omega arith)) (none_from test a n g (omega arith) none)

by_first : (o timed : Option ℕ) (e : ℕ) → (o ≡ Some e) ⊎ (o ≡ timed) → woken (due_is o e || false) e timed ≡ o
by_first None timed e (inl f) = absurd (cc)
by_first (Some t) timed e (inl f) = at (t == e) refl
  where
    at : (b : Bool) → (t == e) ≡ b → woken (b || false) e timed ≡ Some t
    at true g = sym f
    at false g = absurd (is_other t e g (let z : t ≡ e = cc in z))
by_first None timed e (inr f) = sym f
by_first (Some t) timed e (inr f) = at (t == e) refl
  where
    at : (b : Bool) → (t == e) ≡ b → woken (b || false) e timed ≡ Some t
    at true g = ap (λ k. Some k) (sym (is_same t e g))
    at false g = sym f

module _ {S : Type 0} where
  -- at boundary 0 the next time is 0
  at_zero : (c : Course S) (i g : ℕ) → next_in c i g 0 ≡ Some (edge_from (period c i) 0)
  at_zero c i g =
      let z : edge_from (period c i) 0 ≡ 0 = edge_at 0 (period c i) (let w : 0 % period c i ≡ 0 = omega arith in w) in
      ap (next_at (period c i) (flag c i) (faced c i) (timer c i) g) z ∙ sym (ap (λ k. Some k) z)

  -- behind it, where no face was changed in the gaps below g
  behind_zero : (c : Course S) (i g u : ℕ) (s : S) → c.from ≡ u + 1 → g ≤ c.from → 0 < period c i → c.machine.period s ≡ period c i → ((t : ℕ) → t < c.from → slice_get (c.before t).states i ≡ Some s) → ((t : ℕ) → t < g → faced c i t ≡ false) →
      (c.first i ≡ Some (edge_from (c.machine.period s) c.from)) ⊎ (c.first i ≡ timer_at c.machine c.from s) → next_in c i g (u + 1) ≡ c.first i
  behind_zero c i g u s from below pos per states calm choice =
      let p = period c i in
      let m = c.machine in
      let e = edge_from p (u + 1) in
      let q = e - p in
      let l = edge_le u p pos in
      let far = edge_far u p pos in
      let before : q < c.from = omega (arith, l, from) in
      let whole : q + p ≡ e = omega (arith, far) in
      let edge_is : edge_from (m.period s) c.from ≡ e = ap (λ x. edge_from x c.from) per ∙ ap (edge_from p) from in
      let flag_is : flag c i q ≡ due_is (c.first i) e = flag_none c i q before ∙ ap (due_is (c.first i)) whole in
      let none : any_from (faced c i) q (g - q) ≡ false = no_face q before in
      let state : slice_get (after c q).states i ≡ Some s = ap (λ (h : Side S). slice_get h.states i) (after_none c q before) ∙ states q before in
      let timer_is : timer c i q ≡ timer_at m c.from s =
      ap (λ o. times p (due_at m (q / p) o)) state
      ∙ sym (ap (λ x. times (m.period s) (m.due s ((x - m.period s) / m.period s))) edge_is ∙ ap (λ x. times x (m.due s ((e - x) / x))) per) in
      next_some p (flag c i) (faced c i) (timer c i) g e q (g - q) (omega (arith, l)) refl refl
      ∙ ap (λ x. woken (x || any_from (faced c i) q (g - q)) e (timer c i q)) flag_is
      ∙ ap (λ x. woken (due_is (c.first i) e || x) e (timer c i q)) none
      ∙ by_first (c.first i) (timer c i q) e (told edge_is timer_is choice)
    where
      no_face : (q : ℕ) → q < c.from → any_from (faced c i) q (g - q) ≡ false
      no_face q l = within (g - q) refl
        where
          within : (n : ℕ) → g - q ≡ n → any_from (faced c i) q n ≡ false
          within zero z = refl
          within (suc n) z = none_from (faced c i) q (suc n) g (omega (arith, z)) calm

      told : {e : ℕ} {timed : Option ℕ} → edge_from (c.machine.period s) c.from ≡ e → timed ≡ timer_at c.machine c.from s → (c.first i ≡ Some (edge_from (c.machine.period s) c.from)) ⊎ (c.first i ≡ timer_at c.machine c.from s) → (c.first i ≡ Some e) ⊎ (c.first i ≡ timed)
      told a b (inl f) = inl (f ∙ ap (λ k. Some k) a)
      told a b (inr f) = inr (f ∙ sym b)

  -- the next times of a side at the boundary that the run begins at
  first_is : (c : Course S) (valid : S → Type 0) (end i g : ℕ) (next : List (Option ℕ)) (h : Side S) → IsCourse c valid end → i < length (c.before 0).states → g ≤ c.from → ((t : ℕ) → t < c.from → c.before t ≡ h) → (c.before 0).states ≡ h.states → ((t : ℕ) → t < g → faced c i t ≡ false) → c.first i ≡ next_at_place next i → AreNext c.machine c.from next h → next_in c i g c.from ≡ next_at_place next i
  first_is c valid end i g next h is b l worlds world calm same are =
      let r = at_of c valid end i 0 is b (omega arith) in
      let s = r.0 in
      let at : slice_get h.states i ≡ Some s = ap (λ xs. slice_get xs i) (sym world) ∙ r.1.is in
      let pos : 0 < period c i = subst (λ x. 0 < x) r.1.same r.1.all in
      by_from c.from refl s at pos r.1.same (are i s at)
    where
      by_from : (from : ℕ) → c.from ≡ from → (s : S) → slice_get h.states i ≡ Some s → 0 < period c i → c.machine.period s ≡ period c i →
          (next_at_place next i ≡ Some (edge_from (c.machine.period s) c.from)) ⊎ ((0 < c.from) × (next_at_place next i ≡ timer_at c.machine c.from s)) → next_in c i g c.from ≡ next_at_place next i
      by_from zero f s at pos per (inl e) = ap (next_in c i g) f ∙ at_zero c i g ∙ ap (λ x. Some (edge_from x 0)) (sym per) ∙ ap (λ x. Some (edge_from (c.machine.period s) x)) (sym f) ∙ sym e
      by_from zero f s at pos per (inr e) = absurd (omega (arith, f, e.0))
      by_from (suc u) f s at pos per choice =
          let z : c.from ≡ u + 1 = omega (arith, f) in
          ap (next_in c i g) z ∙ behind_zero c i g u s z l pos per (λ t below. ap (λ (x : Side S). slice_get x.states i) (worlds t below) ∙ at) calm (either choice) ∙ same
        where
          either : (next_at_place next i ≡ Some (edge_from (c.machine.period s) c.from)) ⊎ ((0 < c.from) × (next_at_place next i ≡ timer_at c.machine c.from s)) → (c.first i ≡ Some (edge_from (c.machine.period s) c.from)) ⊎ (c.first i ≡ timer_at c.machine c.from s)
          either (inl e) = inl (same ∙ e)
          either (inr e) = inr (same ∙ e.1)

module _ {P N : Type 0} where
  -- an engine may begin at a start: its world and its next times are the run's there
  pub start_boundary : (r : System P N) (vp : P → Type 0) (vn : N → Type 0) → IsSetUp r vp vn → length r.start.part_next ≡ length r.start.world.parts → length r.start.link_next ≡ length r.start.world.links →
      AreNext r.part r.start.at r.start.part_next (parts_of r.start.world) → AreNext r.link r.start.at r.start.link_next (links_of r.start.world) →
      IsBoundary r r.start.at (whole_world r.start.world) r.start.part_next r.start.link_next
  start_boundary r vp vn up parts_long links_long parts links =
      let c = part_course r in
      let k = link_course r in
      let from = r.start.at in
      let end : ℕ = LATEST_TICK in
      record {
        begun = omega arith;
        world_is = ap whole_world (sym (world_begin r from (omega arith)));
        parts_are = record {
          long = parts_long;
          at = λ i b. sym (first_is c vp end i from r.start.part_next (parts_of r.start.world) (part_is r vp vn up) b (omega arith) (λ t l. ap parts_of (world_begin r t (omega arith))) refl
              (λ t l. gap_rests c t i (ap (λ w. (parts_of w).ports) (world_begin r (suc t) (omega arith) ∙ sym (world_begin r t (omega arith))) ∙ sym (ap (λ (h : Side P). h.ports) (after_none c t l)))) refl parts);
        };
        links_are = record {
          long = links_long;
          at = λ i b. sym (first_is k vn end i (from - 1) r.start.link_next (links_of r.start.world) (link_is r vp vn up) b (omega arith) (λ t l. ap links_of (mid_begin r t l ∙ world_begin r t (omega arith))) refl
              (λ t l. gap_rests k t i (ap (λ w. (links_of w).ports) (mid_begin r (suc t) (omega arith) ∙ world_begin r (suc t) (omega arith) ∙ sym (mid_begin r t (omega arith) ∙ world_begin r t (omega arith))) ∙ sym (ap (λ (h : Side N). h.ports) (after_none k t (omega arith))))) refl links);
        };
      }
