-- Who is not awake makes a step that gives nothing.
use Rattle.std.specs.Prelude.{◌≡◌, ℕ, ◌+◌, ◌-◌, ◌*◌, ◌/◌, ◌%◌, ◌<◌, ◌≤◌, ◌==◌, ◌||◌, List, [], ◌∷◌, length, Option, Some, None, Bool, true, false, slice_get, refl}
use Rattle.std.proofs.Common.{zero, suc, sym, ◌∙◌, ap, subst, arith, inl, inr}
use Rattle.std.proofs.lemmas.Bool.{cases_lt}
use Rattle.std.proofs.lemmas.Bool.Decides.{nat_tests}
use Rattle.std.proofs.lemmas.Nat.{mod-mul-add}
use Rattle.std.proofs.Math.Nat.{div-add-mod'}
use Rattle.port_msg.specs.PortView.{PortView}
use Rattle.tick_law.specs.Machine.{Machine}
use Rattle.tick_law.specs.Quiet.{IsBelow, Asleep}
use Rattle.tick_law.specs.Face.{SameFaces}
use Rattle.tick_law.specs.Wires.{Wires, own_of}
use Rattle.tick_law.specs.Pass.{gather, has_edge, step_of, state_if, everyone}
use Rattle.model_laws.proofs.OneMoreActor.{is_same}
use Rattle.model_laws.proofs.SleepersChangeNothing.{Still, sound_gather, length-gather}
use Rattle.tick_law.specs.Outcomes.{outcome_by, flag_of}
use Rattle.model_laws.proofs.PassGives.{Idle}
use Rattle.tick_law.specs.NextTime.{any_from, due_is}
use Rattle.tick_law.specs.Course.{Course, after, flag, faced, period_at, period, due_at, due_after, awake_at, awake}
use Rattle.model_laws.proofs.SideCourse.{IsCourse}
use Rattle.model_laws.proofs.FacesKept.{or_left, or_right, faces_trans}
use Rattle.model_laws.proofs.RestingActors.{state_then, gap_faces}
use Rattle.model_laws.proofs.StepsFromStart.{after_all, after_none, flag_all, flag_none, awake_from, state_stays, ports_stay}

-- from one cycle to the next there is no edge in between
pub mod_between : (n p j : ℕ) → 0 < j → j < p → ((n * p + j) % p == 0) ≡ false
mod_between n p j a b = let e : (n * p + j) % p ≡ j = mod-mul-add n p j b in grind (arith, nat_tests)

pub mod_edge : (n p : ℕ) → 0 < p → (n * p) % p ≡ 0
mod_edge n p a = let e : (n * p + 0) % p ≡ 0 = mod-mul-add n p 0 a in subst (λ x. x % p ≡ 0) (let z : n * p + 0 ≡ n * p = omega arith in z) e

pub is_zero : (a : ℕ) → a ≡ 0 → (a == 0) ≡ true
is_zero a e = rw e refl

pub cycle_of : (n p : ℕ) → 0 < p → n * p / p ≡ n
cycle_of n p a = grind (arith, nat_tests)

pub below_due : (o : Option ℕ) (n k : ℕ) → ((t : ℕ) → o ≡ Some t → n < t) → k ≡ suc n → due_is o k ≡ false → IsBelow k o
below_due None n k later e f = tt
below_due (Some t) n k later e f = let l = later t refl in grind (arith, nat_tests, l, e, f)

module _ {S : Type 0} where
  -- actor i is in state s at t
  pub record At (c : Course S) (ok : S → Type 0) (i t : ℕ) (s : S) : Type 0 where
    pub is : slice_get (c.before t).states i ≡ Some s
    pub same : c.machine.period s ≡ period c i
    pub good : ok s
    pub own : length (own_of c.wires i) ≡ c.machine.own s
    pub all : 0 < c.machine.period s

  start_at : (xs : List S) (i : ℕ) → i < length xs → (s : S) × (slice_get xs i ≡ Some s)
  start_at [] i b = absurd (omega arith)
  start_at (x ∷ xs) zero b = (x, refl)
  start_at (x ∷ xs) (suc i) b = start_at xs i (omega arith)

  period_if : (m : Machine S) (st s : S) (b : Bool) → m.period st ≡ m.period s → m.period (state_if b st s) ≡ m.period s
  period_if m st s true e = e
  period_if m st s false e = refl

  period_then : (c : Course S) (valid : S → Type 0) (end i t : ℕ) (s : S) → IsCourse c valid end → t ≤ end → At c valid i t s → c.machine.period (step_of c.machine c.wires t (c.before t).ports i s).state ≡ c.machine.period s
  period_then c valid end i t s is l at =
      let ports = sound_gather (c.before t).ports (own_of c.wires i) (is.sound t l).ports (λ q has. (is.wired t).within i q has) in
      (is.lawful.framed s (gather (c.before t).ports (own_of c.wires i)) (t / c.machine.period s) at.good ports (length-gather (c.before t).ports (own_of c.wires i) ∙ at.own)).period

  -- the pass leaves an actor a state of the same period
  state_next : (c : Course S) (valid : S → Type 0) (end i t : ℕ) (s : S) → IsCourse c valid end → t ≤ end → At c valid i t s → (new : S) × (slice_get (after c t).states i ≡ Some new) × (c.machine.period new ≡ period c i)
  state_next c valid end i t s is l at = elim (cases_lt t c.from) [
    | inl below ↦ (s, ap (λ (h : _). slice_get h.states i) (after_none c t below) ∙ at.is, at.same)
    | inr from ↦ (
      state_if (has_edge c.machine t s) (step_of c.machine c.wires t (c.before t).ports i s).state s,
      ap (λ (h : _). slice_get h.states i) (after_all c t from) ∙ state_then c.machine c.wires t (c.before t) i s at.is,
      period_if c.machine (step_of c.machine c.wires t (c.before t).ports i s).state s (has_edge c.machine t s) (period_then c valid end i t s is l at) ∙ at.same,
    )
  ]

  -- each actor has a state at each time, and keeps its period
  pub at_of : (c : Course S) (valid : S → Type 0) (end i t : ℕ) → IsCourse c valid end → i < length (c.before 0).states → t ≤ end → (s : S) × At c valid i t s
  at_of c valid end i zero is b l =
      let f = start_at (c.before 0).states i b in
      let known = (is.sound 0 l).states i f.0 f.1 in
      (f.0, record { is = f.1; same = sym (ap (λ o. period_at c.machine o) f.1); good = known.0; own = known.1; all = is.positive f.0 known.0 })
  at_of c valid end i (suc t) is b l =
      let r = at_of c valid end i t is b (omega arith) in
      let s = r.0 in
      let then = state_next c valid end i t s is (omega arith) r.1 in
      let here : slice_get (c.before (suc t)).states i ≡ Some then.0 = ap (λ xs. slice_get xs i) (is.states t) ∙ then.1 in
      let known = (is.sound (suc t) l).states i then.0 here in
      (then.0, record { is = here; same = then.2; good = known.0; own = known.1; all = is.positive then.0 known.0 })

  -- one time at which an actor does nothing and no face of it is changed
  pub stays_once : (c : Course S) (valid : S → Type 0) (end i t : ℕ) (s : S) → IsCourse c valid end → t < end → slice_get (c.before t).states i ≡ Some s → (c.from ≤ t → has_edge c.machine t s ≡ true → Still c.machine c.wires t (c.before t).ports i s) → faced c i t ≡ false →
      (slice_get (c.before (suc t)).states i ≡ Some s) × SameFaces c.side (gather (c.before t).ports (own_of c.wires i)) (gather (c.before (suc t)).ports (own_of c.wires i))
  stays_once c valid end i t s is l at still face =
      let own = own_of c.wires i in
      let gap = gap_faces c valid end t own is l (λ q has. (is.wired t).within i q has) face in (
        ap (λ xs. slice_get xs i) (is.states t) ∙ state_stays c i t s at still,
        subst (λ l. SameFaces c.side l (gather (c.before (suc t)).ports own)) (ports_stay c i t s (is.wired t) at still) gap,
      )

  -- from an edge at which it does nothing up to the next one
  pub stays : (c : Course S) (valid : S → Type 0) (end i n k : ℕ) (s : S) → IsCourse c valid end → let p = c.machine.period s in 0 < p → k < p → n * p + k < end → slice_get (c.before (n * p)).states i ≡ Some s → (c.from ≤ n * p → Still c.machine c.wires (n * p) (c.before (n * p)).ports i s) → any_from (faced c i) (n * p) (suc k) ≡ false →
      (slice_get (c.before (suc (n * p + k))).states i ≡ Some s) × SameFaces c.side (gather (c.before (n * p)).ports (own_of c.wires i)) (gather (c.before (suc (n * p + k))).ports (own_of c.wires i))
  stays c valid end i n zero s is pos b l at still face =
      let p = c.machine.period s in
      let z : n * p + 0 ≡ n * p = omega arith in
      let here = stays_once c valid end i (n * p) s is (omega arith) at (λ b e. still b) (ap (faced c i) (sym z) ∙ or_left _ _ face) in
      subst (λ t. (slice_get (c.before (suc t)).states i ≡ Some s) × SameFaces c.side (gather (c.before (n * p)).ports (own_of c.wires i)) (gather (c.before (suc t)).ports (own_of c.wires i))) (sym z) here
  stays c valid end i n (suc k) s is pos b l at still face =
      let p = c.machine.period s in
      let before = stays c valid end i n k s is pos (omega arith) (omega arith) at still (or_right _ _ face) in
      let z : suc (n * p + k) ≡ n * p + suc k = omega arith in
      let off : has_edge c.machine (suc (n * p + k)) s ≡ false = ap (λ t. t % p == 0) z ∙ mod_between n p (suc k) (omega arith) b in
      let here = stays_once c valid end i (suc (n * p + k)) s is (omega arith) before.0 (λ b e. absurd (let f : true ≡ false = sym e ∙ off in cc)) (ap (faced c i) z ∙ or_left _ _ face) in
      let both : (slice_get (c.before (suc (suc (n * p + k)))).states i ≡ Some s) × SameFaces c.side (gather (c.before (n * p)).ports (own_of c.wires i)) (gather (c.before (suc (suc (n * p + k)))).ports (own_of c.wires i)) = (here.0, faces_trans c.side _ _ _ before.1 here.1) in
      subst (λ t. (slice_get (c.before (suc t)).states i ≡ Some s) × SameFaces c.side (gather (c.before (n * p)).ports (own_of c.wires i)) (gather (c.before (suc t)).ports (own_of c.wires i))) z both

  flag_by : (m : Machine S) (w : Wires) (t : ℕ) (ports : List PortView) (i : ℕ) (o : Option S) (s : S) → o ≡ Some s → has_edge m t s ≡ true → flag_of (outcome_by m w everyone t ports i o) ≡ (step_of m w t ports i s).flag
  flag_by m w t ports i o s e edge = rw (e, edge) refl

  pub flag_is : (c : Course S) (i t : ℕ) (s : S) → c.from ≤ t → slice_get (c.before t).states i ≡ Some s → has_edge c.machine t s ≡ true → flag c i t ≡ (step_of c.machine c.wires t (c.before t).ports i s).flag
  flag_is c i t s l e edge = flag_all c i t l ∙ flag_by c.machine c.wires t (c.before t).ports i (slice_get (c.before t).states i) s e edge

  -- a step with no flag gives nothing
  pub idle_of : (c : Course S) (valid : S → Type 0) (end i t : ℕ) (s : S) → IsCourse c valid end → At c valid i t s → (step_of c.machine c.wires t (c.before t).ports i s).flag ≡ false → Idle c.machine c.wires t (c.before t).ports i s
  idle_of c valid end i t s is at none =
      let q = is.quiet s (gather (c.before t).ports (own_of c.wires i)) (t / c.machine.period s) at.good (length-gather (c.before t).ports (own_of c.wires i) ∙ at.own) none in
      record { still = record { state = q.state; ports = q.ports }; whats = q.records; flag = none }

  -- an edge at which an actor makes no progress: its step changes nothing, where the run has begun, and it is asleep from there on
  pub record Rested (c : Course S) (i t : ℕ) (s : S) : Type 0 where
    pub still : c.from ≤ t → Still c.machine c.wires t (c.before t).ports i s
    pub asleep : Asleep S c.machine s (gather (c.before t).ports (own_of c.wires i)) (t / c.machine.period s)

  pub rested : (c : Course S) (valid : S → Type 0) (end i t : ℕ) (s : S) → IsCourse c valid end → At c valid i t s → has_edge c.machine t s ≡ true → c.from ≤ t + period c i → flag c i t ≡ false → Rested c i t s
  rested c valid end i t s is at edge near none = elim (cases_lt t c.from) [
    | inl below ↦
        (let first : due_is (c.first i) (t + c.machine.period s) ≡ false = ap (λ x. due_is (c.first i) (t + x)) at.same ∙ sym (flag_none c i t below) ∙ none in
        record { still = λ l. absurd (omega (arith, l, below)); asleep = is.asleep i t s at.is edge below (subst (λ x. c.from ≤ t + x) (sym at.same) near) first })
    | inr from ↦
        (let no_flag : (step_of c.machine c.wires t (c.before t).ports i s).flag ≡ false = sym (flag_is c i t s from at.is edge) ∙ none in
        let idle = idle_of c valid end i t s is at no_flag in
        let quiet = is.quiet s (gather (c.before t).ports (own_of c.wires i)) (t / c.machine.period s) at.good (length-gather (c.before t).ports (own_of c.wires i) ∙ at.own) no_flag in
        record { still = λ l. idle.still; asleep = quiet.later })
  ]

pub next_cycle : (n p : ℕ) → suc n * p ≡ n * p + p
next_cycle n p = omega arith

pub cycle_then : (n p : ℕ) → 0 < p → (n * p + p) / p ≡ suc n
cycle_then n p a = ap (λ t. t / p) (sym (next_cycle n p)) ∙ cycle_of (suc n) p a

pub edge_then : (n p : ℕ) → 0 < p → (n * p + p) % p ≡ 0
edge_then n p a = ap (λ t. t % p) (sym (next_cycle n p)) ∙ mod_edge (suc n) p a

-- an edge other than 0 is a period after the edge before it
pub edge_before : (t p : ℕ) → 0 < p → t % p ≡ 0 → 0 < t → (n : ℕ) × (t ≡ n * p + p)
edge_before t p a e b = here (t / p) (let z : t / p * p ≡ t = omega (arith, div-add-mod' t p, e) in z)
  where
    here : (k : ℕ) → k * p ≡ t → (n : ℕ) × (t ≡ n * p + p)
    here zero f = absurd (omega arith)
    here (suc n) f = (n, sym f ∙ next_cycle n p)

module _ {S : Type 0} where
  pub awake_is : (c : Course S) (i p q t : ℕ) → 0 < t → t - p ≡ q → awake_at c i p t ≡ (flag c i q || (any_from (faced c i) q p || due_is (due_after c i q) (t / p)))
  awake_is c i p q zero b e = absurd (omega arith)
  awake_is c i p q (suc t) b e = ap (λ x. flag c i x || (any_from (faced c i) x p || due_is (due_after c i x) (suc t / p))) e

  -- the same, told of the next edge
  pub asleep_stays : (c : Course S) (valid : S → Type 0) (end i n p : ℕ) (s : S) → IsCourse c valid end → 0 < p → p ≡ c.machine.period s → n * p + p ≤ end → slice_get (c.before (n * p)).states i ≡ Some s → (c.from ≤ n * p → Still c.machine c.wires (n * p) (c.before (n * p)).ports i s) → any_from (faced c i) (n * p) p ≡ false →
      (slice_get (c.before (n * p + p)).states i ≡ Some s) × SameFaces c.side (gather (c.before (n * p)).ports (own_of c.wires i)) (gather (c.before (n * p + p)).ports (own_of c.wires i))
  asleep_stays c valid end i n zero s is pos e l at still face = absurd (omega arith)
  asleep_stays c valid end i n (suc k) s is pos e l at still face =
      let r = stays c valid end i n k s is (subst (λ x. 0 < x) e pos) (subst (λ x. k < x) e (omega arith)) (subst (λ x. n * x + k < end) e (omega arith)) (subst (λ x. slice_get (c.before (n * x)).states i ≡ Some s) e at) (subst (λ x. c.from ≤ n * x → Still c.machine c.wires (n * x) (c.before (n * x)).ports i s) e still) (subst (λ x. any_from (faced c i) (n * x) (suc k) ≡ false) e face) in
      let back = subst (λ x. (slice_get (c.before (suc (n * x + k))).states i ≡ Some s) × SameFaces c.side (gather (c.before (n * x)).ports (own_of c.wires i)) (gather (c.before (suc (n * x + k))).ports (own_of c.wires i))) (sym e) r in
      subst (λ t. (slice_get (c.before t).states i ≡ Some s) × SameFaces c.side (gather (c.before (n * suc k)).ports (own_of c.wires i)) (gather (c.before t).ports (own_of c.wires i))) (let z : suc (n * suc k + k) ≡ n * suc k + suc k = omega arith in z) back

  -- who is not awake has no flag
  pub asleep_no_flag : (c : Course S) (valid : S → Type 0) (end i n : ℕ) → IsCourse c valid end → i < length (c.before 0).states → n * period c i + period c i ≤ end → c.from ≤ n * period c i + period c i → awake c i (n * period c i + period c i) ≡ false → flag c i (n * period c i + period c i) ≡ false
  asleep_no_flag c valid end i n is b l from sleeps = here (period c i) refl l from (sym (awake_from c i (n * period c i + period c i) from) ∙ sleeps)
    where
      here : (p : ℕ) → p ≡ period c i → n * p + p ≤ end → c.from ≤ n * p + p → awake_at c i p (n * p + p) ≡ false → flag c i (n * p + p) ≡ false
      here p e l from sleeps =
          let r = at_of c valid end i (n * p) is b (omega arith) in
          let s = r.0 in
          let m = c.machine in
          let per : m.period s ≡ p = r.1.same ∙ sym e in
          let pos : 0 < p = subst (λ x. 0 < x) per r.1.all in
          let q = n * p in
          let t = n * p + p in
          let cause = sym (awake_is c i p q t (omega arith) (omega arith)) ∙ sleeps in
          let a = flag c i q in
          let f = any_from (faced c i) q p in
          let d = due_is (due_after c i q) (t / p) in
          let no_flag : flag c i q ≡ false = or_left a (f || d) cause in
          let rest : (f || d) ≡ false = or_right a (f || d) cause in
          let no_face : any_from (faced c i) q p ≡ false = or_left f d rest in
          let no_due : due_is (due_after c i q) (t / p) ≡ false = or_right f d rest in
          let edge : has_edge m q s ≡ true = is_zero (q % m.period s) (ap (λ x. q % x) per ∙ mod_edge n p pos) in
          let rest_q = rested c valid end i q s is r.1 edge (subst (λ x. c.from ≤ q + x) e from) no_flag in
          let later = asleep_stays c valid end i n p s is pos (sym per) (omega arith) r.1.is rest_q.still no_face in
          let edge' : has_edge m t s ≡ true = is_zero (t % m.period s) (ap (λ x. t % x) per ∙ edge_then n p pos) in
          let after_is : due_after c i q ≡ m.due s n = ap (λ o. due_at m (q / period c i) o) (state_stays c i q s r.1.is (λ b x. rest_q.still b)) ∙ ap (λ x. m.due s (q / x)) (sym e) ∙ ap (λ x. m.due s x) (cycle_of n p pos) in
          let below : IsBelow (suc n) (m.due s n) = below_due (m.due s n) n (suc n) (λ k f. is.later s n k r.1.good f) refl (ap (λ o. due_is o (suc n)) (sym after_is) ∙ ap (λ k. due_is (due_after c i q) k) (sym (cycle_then n p pos)) ∙ no_due) in
          let qc : q / m.period s ≡ n = ap (λ x. q / x) per ∙ cycle_of n p pos in
          let tc : t / m.period s ≡ suc n = ap (λ x. t / x) per ∙ cycle_then n p pos in
          let asleep = subst (λ k. Asleep S m s (gather (c.before q).ports (own_of c.wires i)) k) qc rest_q.asleep in
          let faces = subst (λ (x : Bool). SameFaces x (gather (c.before q).ports (own_of c.wires i)) (gather (c.before t).ports (own_of c.wires i))) (sym is.sided) later.1 in
          let gone = asleep (gather (c.before t).ports (own_of c.wires i)) (suc n) faces (omega arith) below in
          flag_is c i t s from later.0 edge' ∙ ap (λ k. (m.step s (gather (c.before t).ports (own_of c.wires i)) k).flag) tc ∙ gone

  -- at each edge an actor is awake, or its step gives nothing
  pub awake_or_quiet : (c : Course S) (valid : S → Type 0) (end i t : ℕ) (s : S) → IsCourse c valid end → i < length (c.before 0).states → t ≤ end → c.from ≤ t → At c valid i t s → has_edge c.machine t s ≡ true → awake c i t ≡ false → Idle c.machine c.wires t (c.before t).ports i s
  awake_or_quiet c valid end i zero s is b l from at edge sleeps = absurd (let f : true ≡ false = sym (awake_from c i 0 from) ∙ sleeps in cc)
  awake_or_quiet c valid end i (suc u) s is b l from at edge sleeps =
      let p = period c i in
      let pos : 0 < p = subst (λ x. 0 < x) at.same at.all in
      let zero_mod : suc u % p ≡ 0 = ap (λ x. suc u % x) (sym at.same) ∙ is_same (suc u % c.machine.period s) 0 edge in
      let n = edge_before (suc u) p pos zero_mod (omega arith) in
      let none : flag c i (suc u) ≡ false = subst (λ t. flag c i t ≡ false) (sym n.1) (asleep_no_flag c valid end i n.0 is b (omega (arith, n.1)) (omega (arith, n.1, from)) (subst (λ t. awake c i t ≡ false) n.1 sleeps)) in
      idle_of c valid end i (suc u) s is at (sym (flag_is c i (suc u) s from at.is edge) ∙ none)
