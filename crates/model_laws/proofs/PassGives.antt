-- What the steps of one pass gave.
use Rattle.std.specs.Prelude.{◌≡◌, ℕ, ◌+◌, ◌*◌, ◌/◌, ◌<◌, ◌≤◌, ◌==◌, ◌&&◌, ◌||◌, List, [], ◌∷◌, ◌++◌, length, map, Option, Some, None, Bool, true, false, slice_get, slice_index_or, refl}
use Rattle.std.proofs.Common.{zero, suc, sym, ◌∙◌, ap, subst, arith}
use Rattle.port_msg.specs.PortView.{PortView}
use Rattle.tick_law.specs.Machine.{Machine, Outcome}
use Rattle.port_msg.specs.RecView.{records_at}
use Rattle.tick_law.specs.Wires.{Wires, own_of, Wired}
use Rattle.tick_law.specs.Pass.{Side, gather, has_edge, step_of, also, everyone}
use Rattle.model_laws.proofs.OneMoreActor.{is_same, is_other}
use Rattle.model_laws.specs.WellFormed.{IsSound}
use Rattle.model_laws.proofs.SleepersChangeNothing.{Still, sound_gather, length-gather}
use Rattle.tick_law.specs.Laws.{Lawful}
use Rattle.tick_law.specs.Outcomes.{flag_of, outcome, outcome_by, outcome_if, records_to, stirs_to, whats_of}
use Rattle.model_laws.specs.Outcome.{named, joined, firsts, own_to, outcome_at}

length-map : {A B : Type 0} (f : A → B) (xs : List A) → length (map f xs) ≡ length xs
length-map f [] = refl
length-map f (x ∷ xs) = ap suc (length-map f xs)

pub length-append : {A : Type 0} (xs ys : List A) → length (xs ++ ys) ≡ length xs + length ys
length-append [] ys = let z : length ys ≡ 0 + length ys = omega arith in z
length-append (x ∷ xs) ys = let r = length-append xs ys in let z : suc (length (xs ++ ys)) ≡ suc (length xs) + length ys = omega (arith, r) in z

module _ {S : Type 0} where
  -- a step that gives nothing at all
  pub record Idle (m : Machine S) (w : Wires) (t : ℕ) (ports : List PortView) (i : ℕ) (s : S) : Type 0 where
    pub still : Still m w t ports i s
    pub whats : (step_of m w t ports i s).records ≡ []
    pub flag : (step_of m w t ports i s).flag ≡ false

  idle_whats : (m : Machine S) (w : Wires) (stepped : ℕ → Bool) (t : ℕ) (ports : List PortView) (i : ℕ) (s : S) (a b : Bool) → stepped i ≡ a → has_edge m t s ≡ b → (a ≡ false → b ≡ true → Idle m w t ports i s) → whats_of (outcome_by m w stepped t ports i (Some s)) ≡ whats_of (outcome_by m w everyone t ports i (Some s))
  idle_whats m w stepped t ports i s true b e f h = rw e refl
  idle_whats m w stepped t ports i s false true e f h = rw (e, f) (sym (h refl refl).whats)
  idle_whats m w stepped t ports i s false false e f h = rw (e, f) refl

  idle_flag : (m : Machine S) (w : Wires) (stepped : ℕ → Bool) (t : ℕ) (ports : List PortView) (i : ℕ) (s : S) (a b : Bool) → stepped i ≡ a → has_edge m t s ≡ b → (a ≡ false → b ≡ true → Idle m w t ports i s) → flag_of (outcome_by m w stepped t ports i (Some s)) ≡ flag_of (outcome_by m w everyone t ports i (Some s))
  idle_flag m w stepped t ports i s true b e f h = rw e refl
  idle_flag m w stepped t ports i s false true e f h = rw (e, f) (sym (h refl refl).flag)
  idle_flag m w stepped t ports i s false false e f h = rw (e, f) refl

  whats_same : (m : Machine S) (w : Wires) (stepped : ℕ → Bool) (t : ℕ) (ports : List PortView) (i : ℕ) (o : Option S) → ((s : S) → o ≡ Some s → stepped i ≡ false → has_edge m t s ≡ true → Idle m w t ports i s) → whats_of (outcome_by m w stepped t ports i o) ≡ whats_of (outcome_by m w everyone t ports i o)
  whats_same m w stepped t ports i None h = refl
  whats_same m w stepped t ports i (Some s) h = idle_whats m w stepped t ports i s (stepped i) (has_edge m t s) refl refl (λ a b. h s refl a b)

  pub flag_same : (m : Machine S) (w : Wires) (stepped : ℕ → Bool) (t : ℕ) (ports : List PortView) (i : ℕ) (o : Option S) → ((s : S) → o ≡ Some s → stepped i ≡ false → has_edge m t s ≡ true → Idle m w t ports i s) → flag_of (outcome_by m w stepped t ports i o) ≡ flag_of (outcome_by m w everyone t ports i o)
  flag_same m w stepped t ports i None h = refl
  flag_same m w stepped t ports i (Some s) h = idle_flag m w stepped t ports i s (stepped i) (has_edge m t s) refl refl (λ a b. h s refl a b)

  -- where each step of those who are left out gives nothing, the records and the flags are whole
  pub records_sleeping : (m : Machine S) (w : Wires) (stepped : ℕ → Bool) (t : ℕ) (h : Side S) (base n : ℕ) → ((i : ℕ) (s : S) → slice_get h.states i ≡ Some s → stepped i ≡ false → has_edge m t s ≡ true → Idle m w t h.ports i s) → records_to m w stepped t h base n ≡ records_to m w everyone t h base n
  records_sleeping m w stepped t h base zero idle = refl
  records_sleeping m w stepped t h base (suc i) idle =
      let before : records_to m w stepped t h base i ≡ records_to m w everyone t h base i = records_sleeping m w stepped t h base i idle in
      let here : whats_of (outcome m w stepped t h i) ≡ whats_of (outcome m w everyone t h i) = whats_same m w stepped t h.ports i (slice_get h.states i) (idle i) in
      ap (λ l. l ++ records_at t (base + i) (whats_of (outcome m w stepped t h i))) before ∙ ap (λ l. records_to m w everyone t h base i ++ records_at t (base + i) l) here

  pub stirs_sleeping : (m : Machine S) (w : Wires) (stepped : ℕ → Bool) (t : ℕ) (h : Side S) (n : ℕ) → ((i : ℕ) (s : S) → slice_get h.states i ≡ Some s → stepped i ≡ false → has_edge m t s ≡ true → Idle m w t h.ports i s) → stirs_to m w stepped t h n ≡ stirs_to m w everyone t h n
  stirs_sleeping m w stepped t h zero idle = refl
  stirs_sleeping m w stepped t h (suc i) idle =
      let before : stirs_to m w stepped t h i ≡ stirs_to m w everyone t h i = stirs_sleeping m w stepped t h i idle in
      let here : flag_of (outcome m w stepped t h i) ≡ flag_of (outcome m w everyone t h i) = flag_same m w stepped t h.ports i (slice_get h.states i) (idle i) in
      ap (λ b. b || flag_of (outcome m w stepped t h i)) before ∙ ap (λ b. stirs_to m w everyone t h i || b) here

  -- the records fit the room of 64 a port
  whats_few : (m : Machine S) (valid : S → Type 0) (w : Wires) (stepped : ℕ → Bool) (t : ℕ) (h : Side S) (i : ℕ) → Lawful m valid → Wired w (length h.ports) → IsSound m valid w h → (o : Option S) → slice_get h.states i ≡ o → length (whats_of (outcome_by m w stepped t h.ports i o)) ≤ 64 * length (own_of w i)
  whats_few m valid w stepped t h i law wired sound None e = omega arith
  whats_few m valid w stepped t h i law wired sound (Some s) e = by_flag (stepped i && has_edge m t s)
    where
      by_flag : (b : Bool) → length (whats_of (outcome_if b (step_of m w t h.ports i s))) ≤ 64 * length (own_of w i)
      by_flag true =
          let had = sound.states i s e in
          let ports = sound_gather h.ports (own_of w i) sound.ports (λ r has. wired.within i r has) in
          let f = law.framed s (gather h.ports (own_of w i)) (t / m.period s) had.0 ports (length-gather h.ports (own_of w i) ∙ had.1) in
          omega (arith, f.records, length-gather h.ports (own_of w i))
      by_flag false = omega arith

  pub records_fit : (m : Machine S) (valid : S → Type 0) (w : Wires) (stepped : ℕ → Bool) (t : ℕ) (h : Side S) (base n : ℕ) → Lawful m valid → Wired w (length h.ports) → IsSound m valid w h → length (records_to m w stepped t h base n) ≤ 64 * own_to w n
  records_fit m valid w stepped t h base zero law wired sound = omega arith
  records_fit m valid w stepped t h base (suc i) law wired sound =
      let before = records_fit m valid w stepped t h base i law wired sound in
      let few = whats_few m valid w stepped t h i law wired sound (slice_get h.states i) refl in
      let whats = whats_of (outcome m w stepped t h i) in
      let here : length (records_at t (base + i) whats) ≡ length whats = length-map _ whats in
      omega (arith, before, few, here, length-append (records_to m w stepped t h base i) (records_at t (base + i) whats))

below_next : (a b : ℕ) → a < suc b → (a ≡ b → ⊥) → a < b
below_next a b l n = omega arith

pub own_to_grows : (w : Wires) (a b : ℕ) → a < b → own_to w a + length (own_of w a) ≤ own_to w b
own_to_grows w a zero l = absurd (omega arith)
own_to_grows w a (suc b) l = here (a == b) refl (λ r. own_to_grows w a b r)
  where
    here : (x : Bool) → (a == b) ≡ x → (a < b → own_to w a + length (own_of w a) ≤ own_to w b) → own_to w a + length (own_of w a) ≤ own_to w b + length (own_of w b)
    here true e rest = let f : a ≡ b = is_same a b e in subst (λ j. own_to w a + length (own_of w a) ≤ own_to w j + length (own_of w j)) f (omega arith)
    here false e rest = let g = rest (below_next a b l (is_other a b e)) in omega (arith, g)
