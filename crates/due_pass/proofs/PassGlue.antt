-- One turn more in a pass, where actors and ports all stand in their places.
use Rattle.std.proofs.Common.{◌≡◌, ℕ, ◌+◌, ◌-◌, ◌/◌, ◌<◌, ◌≤◌, List, [], ◌∷◌, ◌++◌, length, zero, suc, sym, ◌∙◌, ap, subst, refl, arith}
use Rattle.std.specs.Prelude.{Option, Some, Bool, true, false, ◌||◌, IsTrue, slice_get, slice_set}
use Rattle.port_msg.specs.PortView.{PortView}
use Rattle.port_msg.specs.RecView.{records_at}
use Rattle.port_msg.specs.declared.records.Record.{Record}
use Rattle.tick_law.specs.Machine.{Machine}
use Rattle.tick_law.specs.WorldPlaces.{SidePlaces, alls, somes}
use Rattle.tick_law.specs.Wires.{Wires, own_of, Wired}
use Rattle.tick_law.specs.Pass.{Side, gather, has_edge, pass}
use Rattle.tick_law.specs.Outcomes.{whats_of, flag_of, charge_of}
use Rattle.tick_law.specs.Laws.{Lawful}
use Rattle.model_laws.specs.Pass.{act_at, side_places, whole_side}
use Rattle.model_laws.specs.Outcome.{outcome_at}
use Rattle.model_laws.proofs.PortsPutBack.{somes-alls, alls_full}
use Rattle.model_laws.proofs.TwoPasses.{side_alls}
use Rattle.model_laws.specs.WellFormed.{IsSound}
use Rattle.model_laws.specs.NextTable.{chosen, due_in, next_at_place}
use Rattle.model_laws.specs.Stepping.{Due}
use Rattle.std.proofs.lemmas.Bool.{false≢true}
use Rattle.sim_base.specs.declared.time.Time.{Time}
use Rattle.bit_set.specs.Bits.{is_in}
use Rattle.event_queue.specs.NextTimes.{time_of}
use Rattle.tick_law.specs.NextTime.{due_is}
use Rattle.model_laws.specs.SideTimes.{half_of}
use Rattle.model_laws.proofs.SideTimesLaws.{half_at}
use Rattle.model_laws.proofs.TurnByTurn.{Gone, gone_none, gone_over, gone_turn, due_of, not_due_of}
use Rattle.actor_turn.specs.Next.{next_seat_of}
use Rattle.actor_turn.specs.Act.{side}
use Rattle.actor_turn.proofs.WithinLaws.{seat_at}

module _ {S : Type 0} where
  pub glue_none : (m : Machine S) (w : Wires) (t base : ℕ) (states : List S) (ports : List PortView) (start : List (Option ℕ)) (items : List Record) (steps : ℕ) → Gone m w t base 0 (side states ports) start (side_places (alls states) (alls ports)) start items items false steps steps
  glue_none m w t base states ports start items steps =
      subst (λ (h : Side S). Gone m w t base 0 h start (side_places (alls states) (alls ports)) start items items false steps steps) (side_alls (alls states) (alls ports) states ports refl refl)
      (gone_none m w t base (alls states) (alls ports) start items steps (alls_full states) (alls_full ports))

  pub glue_turn : (m : Machine S) (valid : S → Type 0) (w : Wires) (own : List ℕ) (t base i : ℕ) (h : Side S) (start : List (Option ℕ)) (states states' : List S) (ports ports' : List PortView) (half new_half : List (Option ℕ)) (items0 items new_items : List Record) (flag turned new_flag : Bool) (steps0 steps new_steps : ℕ) → own ≡ own_of w i → Lawful m valid → Wired w (length h.ports) → IsSound m valid w h → length start ≡ length h.states → i < length h.states → chosen Due start t i ≡ true →
      Gone m w t base i h start (side_places (alls states) (alls ports)) half items0 items flag steps0 steps →
      side_places (alls states') (alls ports') ≡ act_at m own i t (side_places (alls states) (alls ports)) (slice_get (alls states) i) →
      ((s : S) → slice_get (alls states) i ≡ Some (Some s) → IsTrue (has_edge m t s) → length (m.step s (gather ports own) (t / m.period s)).ports ≡ length own) →
      new_items ≡ items ++ records_at t (base + i) (whats_of (outcome_at m own t ports (slice_get (alls states) i))) →
      turned ≡ flag_of (outcome_at m own t ports (slice_get (alls states) i)) →
      new_flag ≡ (flag || turned) →
      new_steps ≡ steps + charge_of (outcome_at m own t ports (slice_get (alls states) i)) →
      new_half ≡ slice_set half i (next_seat_of m t turned (next_at_place half i) (slice_get states' i)) →
      Gone m w t base (suc i) h start (side_places (alls states') (alls ports')) new_half items0 new_items new_flag steps0 new_steps
  glue_turn m valid w own t base i h start states states' ports ports' half new_half items0 items new_items flag turned new_flag steps0 steps new_steps mine law wired sound same below due was acted full items_are turned_is flag_is steps_are half_is =
      let o = slice_get (alls states) i in
      let e = somes-alls ports in
      gone_turn m valid w t base i h start (side_places (alls states) (alls ports)) (side_places (alls states') (alls ports')) half new_half items0 items new_items flag turned new_flag steps0 steps new_steps law wired sound same below due was (acted ∙ ap (λ x. act_at m x i t (side_places (alls states) (alls ports)) o) mine)
      (λ s at edge. subst (λ ps. length (m.step s (gather ps (own_of w i)) (t / m.period s)).ports ≡ length (own_of w i)) (sym e) (subst (λ x. length (m.step s (gather ports x) (t / m.period s)).ports ≡ length x) mine (full s at edge)))
      (items_are ∙ ap (λ ps. items ++ records_at t (base + i) (whats_of (outcome_at m own t ps o))) (sym e) ∙ ap (λ x. items ++ records_at t (base + i) (whats_of (outcome_at m x t (somes (alls ports)) o))) mine)
      (turned_is ∙ ap (λ ps. flag_of (outcome_at m own t ps o)) (sym e) ∙ ap (λ x. flag_of (outcome_at m x t (somes (alls ports)) o)) mine)
      flag_is
      (steps_are ∙ ap (λ ps. steps + charge_of (outcome_at m own t ps o)) (sym e) ∙ ap (λ x. steps + charge_of (outcome_at m x t (somes (alls ports)) o)) mine)
      (half_is ∙ ap (slice_set half i) (seat_at m t turned (next_at_place half i) states' i))

  -- those that are not marked are passed over
  pub gone_upto : (m : Machine S) (w : Wires) (t base at n : ℕ) (h : Side S) (start : List (Option ℕ)) (places : SidePlaces S) (half : List (Option ℕ)) (items0 items : List Record) (flag : Bool) (steps0 steps : ℕ) → at ≤ n → ((j : ℕ) → at ≤ j → j < n → chosen Due start t j ≡ false) → Gone m w t base at h start places half items0 items flag steps0 steps → Gone m w t base n h start places half items0 items flag steps0 steps
  gone_upto m w t base at n h start places half items0 items flag steps0 steps b rests was =
      let e : at + (n - at) ≡ n = omega (arith, b) in
      subst (λ j. Gone m w t base j h start places half items0 items flag steps0 steps) e
      (gone_over m w t base at (n - at) h start places half items0 items flag steps0 steps (λ j a l. rests j a (omega (arith, l, e))) was)

-- the set that the heap gave marks those whose next time is now
pub marked_due : (times : List (Option Time)) (first count t : ℕ) (due : List Bool) → length due ≡ count → ((i : ℕ) → i < length due → time_of times (first + i) ≡ Some (record { 0 = t }) → is_in due i ≡ true) → ((i : ℕ) → is_in due i ≡ true → time_of times (first + i) ≡ Some (record { 0 = t })) → (i : ℕ) → i < count → is_in due i ≡ due_in (half_of first count times) t i
marked_due times first count t due long marked only i b = at (is_in due i) refl
  where
    at : (x : Bool) → is_in due i ≡ x → is_in due i ≡ due_in (half_of first count times) t i
    at true e = e ∙ sym (ap (λ o. due_is o t) (half_at first count times i b) ∙ due_of (time_of times (first + i)) t (only i e))
    at false e = e ∙ sym (ap (λ o. due_is o t) (half_at first count times i b) ∙ not_due_of (time_of times (first + i)) t (λ f. false≢true (sym e ∙ marked i (omega (arith, b, long)) f)))
