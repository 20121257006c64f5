-- A pass that begins: nobody is back yet, and who is due has an edge.
use Rattle.std.proofs.Common.{◌≡◌, ◌≢◌, ℕ, zero, suc, ◌+◌, ◌-◌, ◌*◌, ◌/◌, ◌%◌, ◌<◌, ◌≤◌, ◌⊎◌, inl, inr, List, length, sym, ◌∙◌, ap, subst, arith, refl, add-one}
use Rattle.std.specs.Prelude.{Option, Some, None, Bool, true, false, ◌==◌, ◌||◌, slice_get}
use Rattle.std.proofs.Math.Nat.{div-add-mod', suc-mul, mul-le-mul_right}
use Rattle.sim_base.specs.Edge.{edge_from, edge_past}
use Rattle.bit_set.specs.Bits.{is_in}
use Rattle.tick_law.specs.Wires.{Wires}
use Rattle.tick_law.specs.Pass.{Side, first}
use Rattle.tick_law.specs.SerialLoop.{pick}
use Rattle.tick_law.specs.NextTime.{any_from, next_at, woken, times, due_is}
use Rattle.tick_law.specs.Course.{Course, after, due_at, due_after, next_in, flag, faced, period, ready, ticked, timer}
use Rattle.model_laws.specs.NextTable.{IsTable, due_at_time}
use Rattle.model_laws.specs.Changed.{changed}
use Rattle.model_laws.proofs.OneMoreActor.{is_same, is_other}
use Rattle.model_laws.proofs.ActorByActor.{pass_none}
use Rattle.model_laws.proofs.DueByDue.{pass_same}
use Rattle.model_laws.proofs.SideCourse.{IsCourse}
use Rattle.model_laws.proofs.AwakeOrQuiet.{at_of, mod_edge, cycle_of}
use Rattle.model_laws.proofs.NextEdge.{edge_here}
use Rattle.model_laws.proofs.NobodyIsDue.{period_at_start}
use Rattle.model_laws.proofs.ShownByTurns.{woken_none}
use Rattle.model_laws.proofs.DuePassIsWhole.{at_here}
use Rattle.away_rows.specs.SidePass.{so_far, EdgeAt}
use Rattle.away_rows.proofs.SideLaws.{IsSide}

-- where a next time comes from
next_from : (p : ℕ) (f c : ℕ → Bool) (timer : ℕ → Option ℕ) (g e t : ℕ) → next_at p f c timer g e ≡ Some t → (t ≡ 0) ⊎ ((e ≡ t) ⊎ ((q : ℕ) × (timer q ≡ Some t)))
next_from p f c timer g zero t is = inl (let e : 0 ≡ t = cc in sym e)
next_from p f c timer g (suc e) t is = at _ refl
  where
    at : (x : Bool) → (f (suc e - p) || any_from c (suc e - p) (g - (suc e - p))) ≡ x → (t ≡ 0) ⊎ ((suc e ≡ t) ⊎ ((q : ℕ) × (timer q ≡ Some t)))
    at true h = inr (inl (let same : Some (suc e) ≡ Some t = sym (ap (λ x. woken x (suc e) (timer (suc e - p))) h) ∙ is in cc))
    at false h = inr (inr (suc e - p, sym (ap (λ x. woken x (suc e) (timer (suc e - p))) h) ∙ is))

timer_edge : (p : ℕ) (o : Option ℕ) (t : ℕ) → 0 < p → times p o ≡ Some t → t % p ≡ 0
timer_edge p None t pos e = absurd (cc)
timer_edge p (Some n) t pos e = let same : n * p ≡ t = cc in subst (λ x. x % p ≡ 0) same (mod_edge n p pos)

module _ {S : Type 0} where
  -- a next time of now is an edge
  pub due_edge : (c : Course S) (t i : ℕ) → 0 < period c i → ready c i t ≡ Some t → t % period c i ≡ 0
  due_edge c t i pos is = at (t % period c i == 0) refl
    where
      late : (p : ℕ) → t % p ≢ 0 → 0 < p → edge_from p t ≡ t → ⊥
      late p n pos e = let f = edge_here t p n in let b : t % p < p = omega (arith, pos) in absurd (omega (arith, e, f, b))

      at : (x : Bool) → (t % period c i == 0) ≡ x → t % period c i ≡ 0
      at true e = is_same (t % period c i) 0 e
      at false e = elim (next_from (period c i) (flag c i) (faced c i) (timer c i) t (edge_from (period c i) t) t is) [
        | inl z ↦ subst (λ n. n % period c i ≡ 0) (sym z) (omega arith)
        | inr r ↦ (elim r [
          | inl f ↦ absurd (late (period c i) (λ g. is_other (t % period c i) 0 e g) pos f)
          | inr q ↦ timer_edge (period c i) (due_after c i q.0) t pos q.1
        ])
      ]

  -- an edge of the period is one of the actor
  pub edge_is : (c : Course S) (valid : S → Type 0) (end t i : ℕ) → IsCourse c valid end → t ≤ end → t % period c i ≡ 0 → EdgeAt c t i
  edge_is c valid end t i is l z s at =
      let h = at_here c valid end i t s is l at in
      ap (λ p. t % p == 0) h.1.same ∙ ap (λ x. x == 0) z

  -- who is due has an edge
  pub due_has_edge : (c : Course S) (valid : S → Type 0) (end t i : ℕ) → IsCourse c valid end → t ≤ end → due_at_time c t i ≡ true → EdgeAt c t i
  due_has_edge c valid end t i is l due s at =
      let h = at_here c valid end i t s is l at in
      edge_is c valid end t i is l (due_edge c t i (period_at_start c valid end i is h.0) (some_of (ready c i t) t due)) s at
    where
      some_of : (o : Option ℕ) (n : ℕ) → due_is o n ≡ true → o ≡ Some n
      some_of None n e = absurd (cc)
      some_of (Some k) n e = ap (λ x. Some x) (is_same k n e)

  -- nobody is back yet
  pub none_back : (c : Course S) (t : ℕ) (back : List Bool) → IsSide c t → ((i : ℕ) → is_in back i ≡ false) → so_far c t back ≡ c.before t
  none_back c t back side none =
      pass_same c.machine c.wires (is_in back) (first zero) t (c.before t) (λ k l. none k) side.owned
      ∙ pass_none c.machine c.wires t (c.before t)

  pub own_first : (c : Course S) (t count : ℕ) (back : List Bool) (mine : List (Option ℕ)) → ((i : ℕ) → is_in back i ≡ false) → IsTable mine (λ i. ready c i t) count → IsTable mine (λ i. pick (is_in back i) (ticked c i (t + 1)) (ready c i t)) count
  own_first c t count back mine none was = record {
    long = was.long;
    at = λ i b. was.at i b ∙ sym (ap (λ x. pick x (ticked c i (t + 1)) (ready c i t)) (none i));
  }

  pub woke_first : (c : Course S) (t count : ℕ) (part : Bool) (back : List Bool) (others : Wires) (edge : ℕ → ℕ) (old : ℕ → Option ℕ) (theirs : List (Option ℕ)) → so_far c t back ≡ c.before t → IsTable theirs old count →
      IsTable theirs (λ j. woken (changed part (c.before t).ports (so_far c t back).ports others j) (edge j) (old j)) count
  woke_first c t count part back others edge old theirs same was =
      let first = woken_none part (c.before t).ports others edge theirs count was.long in
      record {
        long = was.long;
        at = λ j b.
            first.at j b
            ∙ ap (λ o. woken (changed part (c.before t).ports (c.before t).ports others j) (edge j) o) (was.at j b)
            ∙ sym (ap (λ (h : Side S). woken (changed part (c.before t).ports h.ports others j) (edge j) (old j)) same);
      }

-- the first edge from a time is not below it, and is a multiple of the period
edge_of_period : (p d : ℕ) → 0 < p → (d ≤ edge_from p d) × ((k : ℕ) × (edge_from p d ≡ k * p))
edge_of_period p d pos = at (d % p) refl
  where
    at : (n : ℕ) → d % p ≡ n → (d ≤ edge_past p d (d % p)) × ((k : ℕ) × (edge_past p d (d % p) ≡ k * p))
    at zero e =
        let same : edge_past p d (d % p) ≡ d = ap (edge_past p d) e in
        let whole = div-add-mod' d p in
        (omega (arith, same), (d / p, omega (arith, same, whole, e)))
    at (suc n) e =
        let same : edge_past p d (d % p) ≡ d + (p - suc n) = ap (edge_past p d) e in
        let whole = div-add-mod' d p in
        let b : d % p < p = omega (arith, pos) in
        let more = suc-mul (d / p) p in
        (omega (arith, same), (suc (d / p), omega (arith, same, whole, e, b, more)))

module _ {S : Type 0} where
  timer_ahead : (c : Course S) (valid : S → Type 0) (end i q n : ℕ) → IsCourse c valid end → q < end → i < length (c.before 0).states → due_after c i q ≡ Some n → q / period c i < n
  timer_ahead c valid end i q n is l b e =
      let next = at_of c valid end i (q + 1) is b (omega (arith, l)) in
      let here : slice_get (after c q).states i ≡ Some next.0 = ap (λ xs. slice_get xs i) (sym (is.states q)) ∙ ap (λ k. slice_get (c.before k).states i) (sym (add-one q)) ∙ next.1.is in
      is.later next.0 (q / period c i) n next.1.good (sym (ap (λ o. due_at c.machine (q / period c i) o) here) ∙ e)

  -- no next time lies behind the steps that are past
  pub next_ahead : (c : Course S) (valid : S → Type 0) (end g d i t : ℕ) → IsCourse c valid end → d ≤ end → i < length (c.before 0).states → next_in c i g d ≡ Some t → d ≤ t
  next_ahead c valid end g d i t is l b e = at (edge_from (period c i) d) refl
    where
      p : ℕ
      p = period c i

      pos : 0 < p
      pos = period_at_start c valid end i is b

      edge : (d ≤ edge_from p d) × ((k : ℕ) × (edge_from p d ≡ k * p))
      edge = edge_of_period p d pos

      late : (x : ℕ) → edge_from p d ≡ suc x → (k : ℕ) → edge_from p d ≡ k * p → (o : Option ℕ) → due_after c i (suc x - p) ≡ o → times p o ≡ Some t → suc x ≤ t
      late x f k m None h z = absurd (cc)
      late x f zero m (Some n) h z = absurd (omega (arith, f, m))
      late x f (suc j) m (Some n) h z =
          let same : n * p ≡ t = cc in
          let more = suc-mul j p in
          let q : suc x - p ≡ j * p = omega (arith, f, m, more) in
          let below : suc x - p < end = omega (arith, edge.0, f, m, more, q, l, pos, near x f) in
          let later = timer_ahead c valid end i (suc x - p) n is below b h in
          let cycle : (suc x - p) / p ≡ j = ap (λ y. y / p) q ∙ cycle_of j p pos in
          let bound = mul-le-mul_right {m = suc j} {n = n} p (omega (arith, later, cycle)) in
          omega (arith, bound, same, f, m)
        where
          near : (y : ℕ) → edge_from p d ≡ suc y → suc y < d + p
          near y g0 = at_past (d % p) refl g0
            where
              at_past : (n : ℕ) → d % p ≡ n → edge_past p d (d % p) ≡ suc y → suc y < d + p
              at_past zero h0 g1 = let z0 : edge_past p d (d % p) ≡ d = ap (edge_past p d) h0 in omega (arith, z0, g1, pos)
              at_past (suc n) h0 g1 = let z0 : edge_past p d (d % p) ≡ d + (p - suc n) = ap (edge_past p d) h0 in omega (arith, z0, g1, pos)

      at : (x : ℕ) → edge_from p d ≡ x → d ≤ t
      at zero f = omega (arith, edge.0, f)
      at (suc x) f = by_wake (flag c i (suc x - p) || any_from (faced c i) (suc x - p) (g - (suc x - p))) (sym (ap (next_at p (flag c i) (faced c i) (timer c i) g) f) ∙ e)
        where
          by_wake : (y : Bool) → woken y (suc x) (timer c i (suc x - p)) ≡ Some t → d ≤ t
          by_wake true z = (let same : suc x ≡ t = cc in omega (arith, edge.0, f, same))
          by_wake false z = (let s = late x f edge.1.0 edge.1.1 (due_after c i (suc x - p)) refl z in omega (arith, edge.0, f, s))
