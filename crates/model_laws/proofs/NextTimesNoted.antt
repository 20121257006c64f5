-- The next times of those that have stepped in a pass.
use Rattle.std.proofs.Common.{◌≡◌, ◌≢◌, ℕ, ◌+◌, ◌<◌, ◌≤◌, ◌/◌, ◌%◌, List, ◌∷◌, [], length, zero, suc, sym, ◌∙◌, ap, subst, arith, refl}
use Rattle.std.specs.Prelude.{Option, Some, None, Bool, true, false, ◌==◌, ◌&&◌, slice_get, slice_set}
use Rattle.std.proofs.lemmas.List.{length-set, get_or-set_same, get_or-set_other}
use Rattle.port_msg.specs.PortView.{PortView}
use Rattle.tick_law.specs.Machine.{Machine}
use Rattle.tick_law.specs.WorldPlaces.{SidePlaces}
use Rattle.tick_law.specs.Wires.{Wires, own_of, Wired}
use Rattle.tick_law.specs.Pass.{Side, gather, has_edge, step_of, state_if, state_after, pass}
use Rattle.model_laws.specs.Pass.{side_places, whole_side}
use Rattle.model_laws.proofs.OneMoreActor.{is_same, is_other}
use Rattle.model_laws.specs.WellFormed.{IsSound}
use Rattle.model_laws.proofs.SleepersChangeNothing.{sound_gather, length-gather}
use Rattle.tick_law.specs.Laws.{Lawful}
use Rattle.model_laws.specs.Outcome.{firsts}
use Rattle.tick_law.specs.Outcomes.{outcome_if, outcome_by, outcome, flag_of}
use Rattle.model_laws.proofs.ActorByActor.{alls_forth}
use Rattle.model_laws.proofs.DueByDue.{firsts_are, outcome_none}
use Rattle.tick_law.specs.NextTime.{due_is}
use Rattle.model_laws.proofs.RestingActors.{get_map_some}
use Rattle.model_laws.specs.NextTable.{next_after, chosen, next_at_place, next_by, next_seat}
use Rattle.model_laws.specs.Stepping.{Stepping, Everyone, Due}

-- whether an actor is chosen is read from its own next time
pub chosen_same : (stepping : Stepping) (next other : List (Option ℕ)) (t i : ℕ) → next_at_place next i ≡ next_at_place other i → chosen stepping next t i ≡ chosen stepping other t i
chosen_same Everyone next other t i e = refl
chosen_same Due next other t i e = ap (λ o. due_is o t) e

has_some : {A : Type 0} (xs : List A) (i : ℕ) → i < length xs → (x : A) × (slice_get xs i ≡ Some x)
has_some [] i b = absurd (omega arith)
has_some (x ∷ xs) zero b = (x, refl)
has_some (x ∷ xs) (suc i) b = has_some xs i (omega arith)

module _ {S : Type 0} where
  period_kept : (m : Machine S) (valid : S → Type 0) (w : Wires) (t i : ℕ) (h : Side S) (s : S) → Lawful m valid → Wired w (length h.ports) → IsSound m valid w h → slice_get h.states i ≡ Some s → m.period (step_of m w t h.ports i s).state ≡ m.period s
  period_kept m valid w t i h s law wired sound e =
      let had = sound.states i s e in
      let ports = sound_gather h.ports (own_of w i) sound.ports (λ r has. wired.within i r has) in
      (law.framed s (gather h.ports (own_of w i)) (t / m.period s) had.0 ports (length-gather h.ports (own_of w i) ∙ had.1)).period

  seat_next : (m : Machine S) (w : Wires) (stepped : ℕ → Bool) (t i : ℕ) (h : Side S) (actors : List (Option S)) (ports : List (Option PortView)) (old : Option ℕ) (s : S) → stepped i ≡ true → side_places actors ports ≡ whole_side (pass m w (firsts stepped (suc i)) t h) → slice_get h.states i ≡ Some s → m.period (step_of m w t h.ports i s).state ≡ m.period s →
      next_seat m t (flag_of (outcome m w stepped t h i)) old (slice_get actors i) ≡ next_after m t (outcome m w stepped t h i) old
  seat_next m w stepped t i h actors ports old s due is at period = by_edge (has_edge m t s) refl
    where
      seat : slice_get actors i ≡ Some (Some (state_after m w (firsts stepped (suc i)) t h.ports i s))
      seat = ap (λ (x : SidePlaces S). slice_get x.actors i) is ∙ alls_forth (pass m w (firsts stepped (suc i)) t h).states i (state_after m w (firsts stepped (suc i)) t h.ports i s) (get_map_some (state_after m w (firsts stepped (suc i)) t h.ports) 0 h.states i s at ∙ ap (λ j. Some (state_after m w (firsts stepped (suc i)) t h.ports j s)) (let z : 0 + i ≡ i = omega arith in z))

      has_stepped : firsts stepped (suc i) i ≡ true
      has_stepped = firsts_are stepped (suc i) i (omega arith) ∙ due

      state : (b : Bool) → has_edge m t s ≡ b → state_after m w (firsts stepped (suc i)) t h.ports i s ≡ state_if b (step_of m w t h.ports i s).state s
      state b e = ap (λ x. state_if (x && has_edge m t s) (step_of m w t h.ports i s).state s) has_stepped ∙ ap (λ x. state_if x (step_of m w t h.ports i s).state s) e

      made_is : (b : Bool) → has_edge m t s ≡ b → outcome m w stepped t h i ≡ outcome_if b (step_of m w t h.ports i s)
      made_is b e = ap (λ o. outcome_by m w stepped t h.ports i o) at ∙ ap (λ x. outcome_if (x && has_edge m t s) (step_of m w t h.ports i s)) due ∙ ap (λ x. outcome_if x (step_of m w t h.ports i s)) e

      by_edge : (b : Bool) → has_edge m t s ≡ b → next_seat m t (flag_of (outcome m w stepped t h i)) old (slice_get actors i) ≡ next_after m t (outcome m w stepped t h i) old
      by_edge true e =
          let st = step_of m w t h.ports i s in
          ap (next_seat m t (flag_of (outcome m w stepped t h i)) old) (seat ∙ ap (λ x. Some (Some x)) (state true e))
          ∙ ap (λ b. next_by b m t (flag_of (outcome m w stepped t h i)) old st.state) (ap (λ p. t % p == 0) period ∙ e)
          ∙ ap (λ o. next_by true m t (flag_of o) old st.state) (made_is true e)
          ∙ sym (ap (λ o. next_after m t o old) (made_is true e))
      by_edge false e =
          ap (next_seat m t (flag_of (outcome m w stepped t h i)) old) (seat ∙ ap (λ x. Some (Some x)) (state false e))
          ∙ ap (λ b. next_by b m t (flag_of (outcome m w stepped t h i)) old s) e
          ∙ sym (ap (λ o. next_after m t o old) (made_is false e))

  pub record Noted (stepping : Stepping) (m : Machine S) (w : Wires) (t i : ℕ) (h : Side S) (start now : List (Option ℕ)) : Type 0 where
    pub long : length now ≡ length start
    pub done : (k : ℕ) → k < i → next_at_place now k ≡ next_after m t (outcome m w (chosen stepping start t) t h k) (next_at_place start k)
    pub left : (k : ℕ) → i ≤ k → next_at_place now k ≡ next_at_place start k

  pub noted_more : (stepping : Stepping) (m : Machine S) (valid : S → Type 0) (w : Wires) (t i : ℕ) (h : Side S) (start now new : List (Option ℕ)) (actors : List (Option S)) (ports : List (Option PortView)) (flag : Bool) → Lawful m valid → Wired w (length h.ports) → IsSound m valid w h → length start ≡ length h.states → i < length h.states → chosen stepping start t i ≡ true → Noted stepping m w t i h start now →
      side_places actors ports ≡ whole_side (pass m w (firsts (chosen stepping start t) (suc i)) t h) → flag ≡ flag_of (outcome m w (chosen stepping start t) t h i) → new ≡ slice_set now i (next_seat m t flag (next_at_place now i) (slice_get actors i)) → Noted stepping m w t (suc i) h start new
  noted_more stepping m valid w t i h start now new actors ports flag law wired sound same b due was is flags set = record {
    long = ap length set ∙ length-set now i _ ∙ was.long;
    done = λ k l. done k l (k == i) refl;
    left = λ k l. ap (λ xs. next_at_place xs k) set ∙ get_or-set_other now i k _ None (let ne : k ≢ i = omega arith in ne) ∙ was.left k (omega arith);
  }
    where
      value : next_seat m t flag (next_at_place now i) (slice_get actors i) ≡ next_after m t (outcome m w (chosen stepping start t) t h i) (next_at_place start i)
      value =
          let f = has_some h.states i b in
          ap (λ x. next_seat m t x (next_at_place now i) (slice_get actors i)) flags
          ∙ seat_next m w (chosen stepping start t) t i h actors ports (next_at_place now i) f.0 due is f.1 (period_kept m valid w t i h f.0 law wired sound f.1)
          ∙ ap (λ o. next_after m t (outcome m w (chosen stepping start t) t h i) o) (was.left i (omega arith))

      done : (k : ℕ) → k < suc i → (x : Bool) → (k == i) ≡ x → next_at_place new k ≡ next_after m t (outcome m w (chosen stepping start t) t h k) (next_at_place start k)
      done k l true e =
          let f : k ≡ i = is_same k i e in
          let long : i < length now = omega (arith, was.long, same, b) in
          subst (λ j. next_at_place new j ≡ next_after m t (outcome m w (chosen stepping start t) t h j) (next_at_place start j)) (sym f) (ap (λ xs. next_at_place xs i) set ∙ get_or-set_same now i _ None long ∙ value)
      done k l false e =
          let n = is_other k i e in
          ap (λ xs. next_at_place xs k) set ∙ get_or-set_other now i k _ None n ∙ was.done k (omega (arith, n))

  pub noted_skip : (stepping : Stepping) (m : Machine S) (w : Wires) (t i : ℕ) (h : Side S) (start now : List (Option ℕ)) → chosen stepping start t i ≡ false → Noted stepping m w t i h start now → Noted stepping m w t (suc i) h start now
  noted_skip stepping m w t i h start now rests was = record {
    long = was.long;
    done = λ k l. done k l (k == i) refl;
    left = λ k l. was.left k (omega arith);
  }
    where
      done : (k : ℕ) → k < suc i → (x : Bool) → (k == i) ≡ x → next_at_place now k ≡ next_after m t (outcome m w (chosen stepping start t) t h k) (next_at_place start k)
      done k l true e =
          let f : k ≡ i = is_same k i e in
          subst (λ j. next_at_place now j ≡ next_after m t (outcome m w (chosen stepping start t) t h j) (next_at_place start j)) (sym f) (was.left i (omega arith) ∙ sym (ap (λ o. next_after m t o (next_at_place start i)) (outcome_none m w (chosen stepping start t) t i h rests)))
      done k l false e = was.done k (let n = is_other k i e in below k i l n)
        where
          below : (k i : ℕ) → k < suc i → (k ≡ i → ⊥) → k < i
          below k i l n = omega arith
