-- A pass of those whose next time is now is the whole pass, and gives the next times after it.
use Rattle.std.specs.Prelude.{◌≡◌, ℕ, ◌+◌, ◌/◌, ◌%◌, ◌<◌, ◌≤◌, ◌&&◌, List, [], ◌∷◌, length, Option, Some, None, Bool, true, false, slice_get, refl}
use Rattle.std.proofs.Common.{zero, suc, sym, ◌∙◌, ap, subst, arith, add-one}
use Rattle.port_msg.specs.PortView.{PortView}
use Rattle.tick_law.specs.Machine.{Machine, Outcome}
use Rattle.tick_law.specs.Wires.{Wires}
use Rattle.tick_law.specs.Pass.{has_edge, step_of, state_if, state_after, pass}
use Rattle.model_laws.proofs.OneMoreActor.{is_same, is_other, length-map_index}
use Rattle.model_laws.proofs.SleepersChangeNothing.{pass_sleeping}
use Rattle.tick_law.specs.Outcomes.{outcome_if, outcome_by, outcome, charge_of, records_to, stirs_to, steps_to}
use Rattle.model_laws.proofs.PassGives.{Idle, records_sleeping, stirs_sleeping}
use Rattle.tick_law.specs.NextTime.{woken, due_is, times}
use Rattle.tick_law.specs.Course.{Course, after, period, due_at, timer, awake, ready, ticked}
use Rattle.model_laws.proofs.SideCourse.{IsCourse}
use Rattle.tick_law.specs.SerialLoop.{begun}
use Rattle.model_laws.proofs.RestingActors.{state_then}
use Rattle.model_laws.proofs.StepsFromStart.{begun_all, after_all}
use Rattle.model_laws.proofs.AwakeOrQuiet.{At, at_of, flag_is, awake_or_quiet}
use Rattle.model_laws.proofs.NextTimesGoOn.{ticked_edge, ticked_between, ticked_sleeps, awake_ready}
use Rattle.model_laws.specs.NextTable.{due_at_time, next_after}

some_below : {A : Type 0} (xs : List A) (i : ℕ) (s : A) → slice_get xs i ≡ Some s → i < length xs
some_below [] i s e = absurd (cc)
some_below (x ∷ xs) zero s e = omega arith
some_below (x ∷ xs) (suc i) s e = let b = some_below xs i s e in omega (arith, b)

module _ {S : Type 0} where
  pub count_is : (c : Course S) (valid : S → Type 0) (end t : ℕ) → IsCourse c valid end → length (c.before t).states ≡ length (c.before 0).states
  count_is c valid end zero is = refl
  count_is c valid end (suc t) is = ap length (is.states t) ∙ length-map_index (state_after c.machine c.wires (begun c.from t) t (c.before t).ports) 0 (c.before t).states ∙ count_is c valid end t is

  pub at_here : (c : Course S) (valid : S → Type 0) (end i t : ℕ) (s : S) → IsCourse c valid end → t ≤ end → slice_get (c.before t).states i ≡ Some s → (i < length (c.before 0).states) × At c valid i t s
  at_here c valid end i t s is l at =
      let b : i < length (c.before 0).states = (let x = some_below (c.before t).states i s at in let y = count_is c valid end t is in omega (arith, x, y)) in
      let r = at_of c valid end i t is b l in
      let same : r.0 ≡ s = (let e : Some r.0 ≡ Some s = sym r.1.is ∙ at in cc) in
      (b, subst (λ x. At c valid i t x) same r.1)

  pub idle_unless_due : (c : Course S) (valid : S → Type 0) (end i t : ℕ) (s : S) → IsCourse c valid end → t ≤ end → c.from ≤ t → slice_get (c.before t).states i ≡ Some s → due_at_time c t i ≡ false → has_edge c.machine t s ≡ true → Idle c.machine c.wires t (c.before t).ports i s
  idle_unless_due c valid end i t s is l from at rests edge =
      let h = at_here c valid end i t s is l at in
      let pos : 0 < period c i = subst (λ x. 0 < x) h.1.same h.1.all in
      let z : t % period c i ≡ 0 = ap (λ x. t % x) (sym h.1.same) ∙ is_same (t % c.machine.period s) 0 edge in
      awake_or_quiet c valid end i t s is h.0 l from h.1 edge (awake_ready c i t from pos z ∙ rests)

  -- the pass of those that are due is the whole pass
  pub due_whole : (c : Course S) (valid : S → Type 0) (end t : ℕ) → IsCourse c valid end → t ≤ end → c.from ≤ t → pass c.machine c.wires (due_at_time c t) t (c.before t) ≡ after c t
  due_whole c valid end t is l from =
      pass_sleeping c.machine c.wires (due_at_time c t) t (c.before t) (is.wired t) (λ i s at rests edge. (idle_unless_due c valid end i t s is l from at rests edge).still) ∙ sym (after_all c t from)

  pub due_records : (c : Course S) (valid : S → Type 0) (end t base n : ℕ) → IsCourse c valid end → t ≤ end → c.from ≤ t → records_to c.machine c.wires (due_at_time c t) t (c.before t) base n ≡ records_to c.machine c.wires (begun c.from t) t (c.before t) base n
  due_records c valid end t base n is l from =
      records_sleeping c.machine c.wires (due_at_time c t) t (c.before t) base n (λ i s at rests edge. idle_unless_due c valid end i t s is l from at rests edge)
      ∙ ap (λ who. records_to c.machine c.wires who t (c.before t) base n) (sym (begun_all c.from t from))

  pub due_stirs : (c : Course S) (valid : S → Type 0) (end t n : ℕ) → IsCourse c valid end → t ≤ end → c.from ≤ t → stirs_to c.machine c.wires (due_at_time c t) t (c.before t) n ≡ stirs_to c.machine c.wires (begun c.from t) t (c.before t) n
  due_stirs c valid end t n is l from =
      stirs_sleeping c.machine c.wires (due_at_time c t) t (c.before t) n (λ i s at rests edge. idle_unless_due c valid end i t s is l from at rests edge)
      ∙ ap (λ who. stirs_to c.machine c.wires who t (c.before t) n) (sym (begun_all c.from t from))

  same_charge : (m : Machine S) (w : Wires) (a b : ℕ → Bool) (t i : ℕ) (ports : List PortView) (s : S) (x : Bool) → has_edge m t s ≡ x → (x ≡ true → a i ≡ b i) → charge_of (outcome_by m w a t ports i (Some s)) ≡ charge_of (outcome_by m w b t ports i (Some s))
  same_charge m w a b t i ports s true e f = let g = f refl in rw g refl
  same_charge m w a b t i ports s false e f = none (a i) (b i)
    where
      none : (x y : Bool) → charge_of (outcome_if (x && has_edge m t s) (step_of m w t ports i s)) ≡ charge_of (outcome_if (y && has_edge m t s) (step_of m w t ports i s))
      none true true = refl
      none true false = rw e refl
      none false true = rw e refl
      none false false = refl

  due_charge : (c : Course S) (valid : S → Type 0) (end t i : ℕ) → IsCourse c valid end → t ≤ end → c.from ≤ t → (o : Option S) → slice_get (c.before t).states i ≡ o → charge_of (outcome_by c.machine c.wires (due_at_time c t) t (c.before t).ports i o) ≡ charge_of (outcome_by c.machine c.wires (λ k. awake c k t) t (c.before t).ports i o)
  due_charge c valid end t i is l from None e = refl
  due_charge c valid end t i is l from (Some s) e =
      let h = at_here c valid end i t s is l e in
      let pos : 0 < period c i = subst (λ x. 0 < x) h.1.same h.1.all in
      same_charge c.machine c.wires (due_at_time c t) (λ k. awake c k t) t i (c.before t).ports s (has_edge c.machine t s) refl
      (λ edge. sym (awake_ready c i t from pos (ap (λ x. t % x) (sym h.1.same) ∙ is_same (t % c.machine.period s) 0 edge)))

  -- and its steps are those of the awake
  pub due_steps : (c : Course S) (valid : S → Type 0) (end t n : ℕ) → IsCourse c valid end → t ≤ end → c.from ≤ t → steps_to c.machine c.wires (due_at_time c t) t (c.before t) n ≡ steps_to c.machine c.wires (λ k. awake c k t) t (c.before t) n
  due_steps c valid end t zero is l from = refl
  due_steps c valid end t (suc n) is l from =
      let a : steps_to c.machine c.wires (due_at_time c t) t (c.before t) n ≡ steps_to c.machine c.wires (λ k. awake c k t) t (c.before t) n = due_steps c valid end t n is l from in
      let b : charge_of (outcome c.machine c.wires (due_at_time c t) t (c.before t) n) ≡ charge_of (outcome c.machine c.wires (λ k. awake c k t) t (c.before t) n) = due_charge c valid end t n is l from (slice_get (c.before t).states n) refl in
      omega (arith, a, b)

  period_step : (m : Machine S) (w : Wires) (t : ℕ) (ports : List PortView) (i : ℕ) (s : S) → has_edge m t s ≡ true → state_if (has_edge m t s) (step_of m w t ports i s).state s ≡ (step_of m w t ports i s).state
  period_step m w t ports i s e = rw e refl

  made_some : (m : Machine S) (w : Wires) (stepped : ℕ → Bool) (t i : ℕ) (ports : List PortView) (o : Option S) (s : S) → o ≡ Some s → stepped i ≡ true → has_edge m t s ≡ true → outcome_by m w stepped t ports i o ≡ Some (step_of m w t ports i s)
  made_some m w stepped t i ports o s e f g = rw (e, f, g) refl

  made_out : (m : Machine S) (w : Wires) (stepped : ℕ → Bool) (t i : ℕ) (ports : List PortView) (o : Option S) (s : S) → o ≡ Some s → has_edge m t s ≡ false → outcome_by m w stepped t ports i o ≡ None
  made_out m w stepped t i ports o s e g = rw e (here (stepped i))
    where
      here : (x : Bool) → outcome_if (x && has_edge m t s) (step_of m w t ports i s) ≡ None
      here true = rw g refl
      here false = refl

  made_not : (m : Machine S) (w : Wires) (stepped : ℕ → Bool) (t i : ℕ) (ports : List PortView) (o : Option S) (s : S) → o ≡ Some s → stepped i ≡ false → outcome_by m w stepped t ports i o ≡ None
  made_not m w stepped t i ports o s e f = rw (e, f) refl

  -- the next time that the step of one who was to step leaves
  pub next_chosen : (c : Course S) (valid : S → Type 0) (end t i : ℕ) (stepped : ℕ → Bool) → IsCourse c valid end → t < end → c.from ≤ t → i < length (c.before 0).states → stepped i ≡ true → next_after c.machine t (outcome c.machine c.wires stepped t (c.before t) i) (ready c i t) ≡ ticked c i (t + 1)
  next_chosen c valid end t i stepped is l from b e = let r = at_of c valid end i t is b (omega arith) in by_edge r.0 r.1 (has_edge c.machine t r.0) refl
    where
      by_edge : (s : S) → At c valid i t s → (y : Bool) → has_edge c.machine t s ≡ y → next_after c.machine t (outcome c.machine c.wires stepped t (c.before t) i) (ready c i t) ≡ ticked c i (t + 1)
      by_edge s at true f =
          let m = c.machine in
          let st = step_of m c.wires t (c.before t).ports i s in
          let now : slice_get (after c t).states i ≡ Some st.state = ap (λ (h : _). slice_get h.states i) (after_all c t from) ∙ state_then m c.wires t (c.before t) i s at.is ∙ ap (λ x. Some x) (period_step m c.wires t (c.before t).ports i s f) in
          let next = at_of c valid end i (t + 1) is b (omega arith) in
          let next_state : next.0 ≡ st.state = (let g : Some next.0 ≡ Some st.state = sym next.1.is ∙ ap (λ k. slice_get (c.before k).states i) (add-one t) ∙ ap (λ xs. slice_get xs i) (is.states t) ∙ now in cc) in
          let per : m.period st.state ≡ period c i = ap m.period (sym next_state) ∙ next.1.same in
          let pos : 0 < period c i = subst (λ x. 0 < x) at.same at.all in
          let z : t % period c i ≡ 0 = ap (λ x. t % x) (sym at.same) ∙ is_same (t % m.period s) 0 f in
          let timers : timer c i t ≡ times (period c i) (m.due st.state (t / period c i)) = ap (λ o. times (period c i) (due_at m (t / period c i) o)) now in
          ap (λ o. next_after m t o (ready c i t)) (made_some m c.wires stepped t i (c.before t).ports (slice_get (c.before t).states i) s at.is e f)
          ∙ ap (λ x. woken st.flag (t + x) (times x (m.due st.state (t / x)))) per
          ∙ ap (λ o. woken st.flag (t + period c i) o) (sym timers)
          ∙ ap (λ x. woken x (t + period c i) (timer c i t)) (sym (flag_is c i t s from at.is f))
          ∙ sym (ticked_edge c i t pos z)
      by_edge s at false f =
          let pos : 0 < period c i = subst (λ x. 0 < x) at.same at.all in
          ap (λ o. next_after c.machine t o (ready c i t)) (made_out c.machine c.wires stepped t i (c.before t).ports (slice_get (c.before t).states i) s at.is f)
          ∙ sym (ticked_between c i t pos (λ z. is_other (t % c.machine.period s) 0 f (ap (λ x. t % x) at.same ∙ z)))

  -- the next times after the pass of those that are due
  pub next_is : (c : Course S) (valid : S → Type 0) (end t i : ℕ) → IsCourse c valid end → t < end → c.from ≤ t → i < length (c.before 0).states → next_after c.machine t (outcome c.machine c.wires (due_at_time c t) t (c.before t) i) (ready c i t) ≡ ticked c i (t + 1)
  next_is c valid end t i is l from b = by_due (due_at_time c t i) refl
    where
      by_due : (x : Bool) → due_at_time c t i ≡ x → next_after c.machine t (outcome c.machine c.wires (due_at_time c t) t (c.before t) i) (ready c i t) ≡ ticked c i (t + 1)
      by_due true e = next_chosen c valid end t i (due_at_time c t) is l from b e
      by_due false e =
          let r = at_of c valid end i t is b (omega arith) in
          let pos : 0 < period c i = subst (λ x. 0 < x) r.1.same r.1.all in
          ap (λ o. next_after c.machine t o (ready c i t)) (made_not c.machine c.wires (due_at_time c t) t i (c.before t).ports (slice_get (c.before t).states i) r.0 r.1.is e)
          ∙ sym (ticked_sleeps c valid end i t is b (omega arith) from pos e)
