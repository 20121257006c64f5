-- A pass over those that are due, one after another.
use Rattle.std.proofs.Common.{◌≡◌, ◌≢◌, ℕ, ◌+◌, ◌-◌, ◌*◌, ◌/◌, ◌<◌, ◌≤◌, List, ◌++◌, length, zero, suc, sym, ◌∙◌, ap, subst, arith, refl, append-nil}
use Rattle.std.specs.Prelude.{Option, Some, None, Bool, true, false, ◌==◌, ◌||◌, slice_get, slice_set, IsTrue}
use Rattle.std.proofs.lemmas.Bool.{eq-eqb}
use Rattle.std.proofs.lemmas.Bool.Decides.{nat_tests}
use Rattle.sim_base.specs.declared.time.TheConstants.{LATEST_TICK}
use Rattle.port_msg.specs.PortView.{PortView}
use Rattle.port_msg.specs.RecView.{records_at}
use Rattle.port_msg.specs.declared.records.Record.{Record}
use Rattle.sim_base.specs.declared.time.Time.{Time}
use Rattle.event_queue.specs.NextTimes.{time_of, NoneDue, IsLeastDue}
use Rattle.tick_law.specs.Machine.{Machine}
use Rattle.tick_law.specs.WorldPlaces.{SidePlaces, IsFull, somes, alls}
use Rattle.tick_law.specs.Wires.{Wires, own_of, owner_of, Wired}
use Rattle.tick_law.specs.Pass.{Side, gather, has_edge, pass}
use Rattle.tick_law.specs.Outcomes.{outcome, whats_of, flag_of, charge_of, records_to, stirs_to, steps_to}
use Rattle.tick_law.specs.NextTime.{due_is}
use Rattle.tick_law.specs.Laws.{Lawful}
use Rattle.model_laws.specs.Pass.{act_at, side_of, side_places, whole_side}
use Rattle.model_laws.specs.Outcome.{firsts, outcome_at, own_to}
use Rattle.model_laws.proofs.PassGives.{own_to_grows, records_fit}
use Rattle.model_laws.proofs.DueByDue.{firsts_are, pass_same, items_of, step_more, skip_more, outcome_more, records_more, records_skip, stirs_more, stirs_skip, steps_more, steps_skip}
use Rattle.model_laws.proofs.OnePortMore.{side_places_is}
use Rattle.model_laws.proofs.ActorByActor.{pass_none, length_states, length_ports}
use Rattle.model_laws.proofs.PortsPutBack.{alls_full}
use Rattle.model_laws.proofs.WorldsAreSound.{room_after}
use Rattle.model_laws.proofs.TwoPasses.{side_alls}
use Rattle.model_laws.specs.WellFormed.{HasRoom, IsSound}
use Rattle.model_laws.proofs.SleepersChangeNothing.{pass_sound}
use Rattle.model_laws.specs.Fitted.{Wakes}
use Rattle.model_laws.specs.NextTable.{chosen, next_at_place, next_seat}
use Rattle.model_laws.specs.Stepping.{Due}
use Rattle.model_laws.proofs.NextTimesNoted.{Noted, noted_more, noted_skip}
use Rattle.model_laws.specs.SideTimes.{half_of, number_of}
use Rattle.model_laws.proofs.PortsStayAsMany.{ports_long}
use Rattle.model_laws.proofs.SideTimesLaws.{half_at}
use Rattle.model_laws.proofs.TimesOfTurn.{actors_long}

pub not_due_of : (o : Option Time) (t : ℕ) → o ≢ Some (record { 0 = t }) → due_is (number_of o) t ≡ false
not_due_of None t apart = refl
not_due_of (Some u) t apart = here (u.0 == t) refl
  where
    here : (b : Bool) → (u.0 == t) ≡ b → (u.0 == t) ≡ false
    here true e =
        let f : u.0 ≡ t = grind (arith, nat_tests, e) in
        absurd (apart (ap (λ n. let x : Time = record { 0 = n } in Some x) f))
    here false e = e

pub due_of : (o : Option Time) (t : ℕ) → o ≡ Some (record { 0 = t }) → due_is (number_of o) t ≡ true
due_of o t e = ap (λ x. due_is (number_of x) t) e ∙ eq-eqb t t refl

pub wakes_same : (w : Wires) (m n : ℕ) (periods : List ℕ) (a b : List (Option ℕ)) → n ≡ m → length b ≡ length a → Wakes w m periods a → Wakes w n periods b
wakes_same w m n periods a b e f was = record {
  wired = subst (λ k. Wired w k) (sym e) was.wired;
  owner = was.owner ∙ sym e;
  owned = λ q l. subst (λ k. owner_of w q < k) (sym f) (was.owned q (subst (λ k. q < k) e l));
  all = was.all ∙ sym f;
  held = was.held;
}

module _ {S : Type 0} where
  -- what is true when the actors below i have had their turns
  pub record Gone (m : Machine S) (w : Wires) (t base i : ℕ) (h : Side S) (start : List (Option ℕ)) (places : SidePlaces S) (half : List (Option ℕ)) (first_items items : List Record) (flag : Bool) (first_steps steps : ℕ) : Type 0 where
    pub places_are : places ≡ whole_side (pass m w (firsts (chosen Due start t) i) t h)
    pub records_are : items ≡ first_items ++ records_to m w (chosen Due start t) t h base i
    pub flag_is : flag ≡ stirs_to m w (chosen Due start t) t h i
    pub steps_are : steps ≡ first_steps + steps_to m w (chosen Due start t) t h i
    pub noted : Noted Due m w t i h start half

  pub gone_none : (m : Machine S) (w : Wires) (t base : ℕ) (actors : List (Option S)) (ports : List (Option PortView)) (start : List (Option ℕ)) (items : List Record) (steps : ℕ) → IsFull actors → IsFull ports → Gone m w t base 0 (side_of actors ports) start (side_places actors ports) start items items false steps steps
  gone_none m w t base actors ports start items steps fa fp = record {
    places_are = side_places_is actors (alls (somes actors)) ports (alls (somes ports)) fa fp ∙ ap (λ (h : Side S). whole_side h) (sym (pass_none m w t (side_of actors ports)));
    records_are = sym (append-nil items);
    flag_is = refl;
    steps_are = omega arith;
    noted = record { long = refl; done = λ k l. absurd (omega arith); left = λ k l. refl };
  }

  gone_skip : (m : Machine S) (w : Wires) (t base i : ℕ) (h : Side S) (start : List (Option ℕ)) (places : SidePlaces S) (half : List (Option ℕ)) (items0 items : List Record) (flag : Bool) (steps0 steps : ℕ) → chosen Due start t i ≡ false → Gone m w t base i h start places half items0 items flag steps0 steps → Gone m w t base (suc i) h start places half items0 items flag steps0 steps
  gone_skip m w t base i h start places half items0 items flag steps0 steps rests was = record {
    places_are = was.places_are ∙ skip_more m w (chosen Due start t) t i h rests;
    records_are = records_skip m w (chosen Due start t) t i h base items0 items rests was.records_are;
    flag_is = stirs_skip m w (chosen Due start t) t i h flag rests was.flag_is;
    steps_are = steps_skip m w (chosen Due start t) t i h steps0 steps rests was.steps_are;
    noted = noted_skip Due m w t i h start half rests was.noted;
  }

  -- those that are not due are passed over
  pub gone_over : (m : Machine S) (w : Wires) (t base i k : ℕ) (h : Side S) (start : List (Option ℕ)) (places : SidePlaces S) (half : List (Option ℕ)) (items0 items : List Record) (flag : Bool) (steps0 steps : ℕ) → ((j : ℕ) → i ≤ j → j < i + k → chosen Due start t j ≡ false) → Gone m w t base i h start places half items0 items flag steps0 steps → Gone m w t base (i + k) h start places half items0 items flag steps0 steps
  gone_over m w t base i zero h start places half items0 items flag steps0 steps rests was = subst (λ j. Gone m w t base j h start places half items0 items flag steps0 steps) (let z : i ≡ i + 0 = omega arith in z) was
  gone_over m w t base i (suc k) h start places half items0 items flag steps0 steps rests was =
      subst (λ j. Gone m w t base j h start places half items0 items flag steps0 steps) (let z : suc (i + k) ≡ i + suc k = omega arith in z)
      (gone_skip m w t base (i + k) h start places half items0 items flag steps0 steps (rests (i + k) (omega arith) (omega arith))
      (gone_over m w t base i k h start places half items0 items flag steps0 steps (λ j a b. rests j a (omega (arith, b))) was))

  -- up to the next one of whom the heap tells
  pub gone_to : (m : Machine S) (w : Wires) (t base i n count : ℕ) (times : List (Option Time)) (h : Side S) (start : List (Option ℕ)) (places : SidePlaces S) (items0 items : List Record) (flag : Bool) (steps0 steps : ℕ) → i ≤ n → n ≤ count → NoneDue times (record { 0 = t }) (base + i) (base + n) → Gone m w t base i h start places (half_of base count times) items0 items flag steps0 steps → Gone m w t base n h start places (half_of base count times) items0 items flag steps0 steps
  gone_to m w t base i n count times h start places items0 items flag steps0 steps from within none was =
      let z : i + (n - i) ≡ n = omega (arith, from) in
      subst (λ j. Gone m w t base j h start places (half_of base count times) items0 items flag steps0 steps) z
      (gone_over m w t base i (n - i) h start places (half_of base count times) items0 items flag steps0 steps
      (λ j a b.
      let l : j < n = omega (arith, b, z) in
      ap (λ o. due_is o t) (sym (was.noted.left j a) ∙ half_at base count times j (omega (arith, l, within))) ∙ not_due_of (time_of times (base + j)) t (none (base + j) (omega (arith, a)) (omega (arith, l))))
      was)

  pub is_chosen : (m : Machine S) (w : Wires) (t base i who count : ℕ) (times : List (Option Time)) (h : Side S) (start : List (Option ℕ)) → Noted Due m w t i h start (half_of base count times) → i < count → base + i ≡ who → time_of times who ≡ Some (record { 0 = t }) → chosen Due start t i ≡ true
  is_chosen m w t base i who count times h start noted b e due =
      ap (λ o. due_is o t) (sym (noted.left i (omega arith)) ∙ half_at base count times i b) ∙ due_of (time_of times (base + i)) t (ap (time_of times) e ∙ due)

  -- one turn more
  pub gone_turn : (m : Machine S) (valid : S → Type 0) (w : Wires) (t base i : ℕ) (h : Side S) (start : List (Option ℕ)) (places new : SidePlaces S) (half new_half : List (Option ℕ)) (items0 items new_items : List Record) (flag turned new_flag : Bool) (steps0 steps new_steps : ℕ) → Lawful m valid → Wired w (length h.ports) → IsSound m valid w h → length start ≡ length h.states → i < length h.states → chosen Due start t i ≡ true →
      Gone m w t base i h start places half items0 items flag steps0 steps →
      new ≡ act_at m (own_of w i) i t places (slice_get places.actors i) →
      ((s : S) → slice_get places.actors i ≡ Some (Some s) → IsTrue (has_edge m t s) → length (m.step s (gather (somes places.ports) (own_of w i)) (t / m.period s)).ports ≡ length (own_of w i)) →
      new_items ≡ items ++ records_at t (base + i) (whats_of (outcome_at m (own_of w i) t (somes places.ports) (slice_get places.actors i))) →
      turned ≡ flag_of (outcome_at m (own_of w i) t (somes places.ports) (slice_get places.actors i)) →
      new_flag ≡ (flag || turned) →
      new_steps ≡ steps + charge_of (outcome_at m (own_of w i) t (somes places.ports) (slice_get places.actors i)) →
      new_half ≡ slice_set half i (next_seat m t turned (next_at_place half i) (slice_get new.actors i)) →
      Gone m w t base (suc i) h start new new_half items0 new_items new_flag steps0 new_steps
  gone_turn m valid w t base i h start places new half new_half items0 items new_items flag turned new_flag steps0 steps new_steps law wired sound same below due was acted full items_are turned_is flag_is steps_are half_is =
      let stepped = chosen Due start t in
      let made = outcome_at m (own_of w i) t (somes places.ports) (slice_get places.actors i) in
      let gave : made ≡ outcome m w stepped t h i = outcome_more m w stepped t i h places (own_of w i) due wired refl was.places_are below in
      let more : new ≡ whole_side (pass m w (firsts stepped (suc i)) t h) = step_more m w stepped t i h places new (own_of w i) due wired refl was.places_are below acted full in
      record {
        places_are = more;
        records_are = items_are ∙ records_more m w stepped t i h base made items0 items gave was.records_are;
        flag_is = flag_is ∙ ap (λ b. flag || b) turned_is ∙ stirs_more m w stepped t i h made flag gave was.flag_is;
        steps_are = steps_are ∙ steps_more m w stepped t i h made steps0 steps gave was.steps_are;
        noted = noted_more Due m valid w t i h start half new_half new.actors new.ports turned law wired sound same below due was.noted more (turned_is ∙ ap (λ o. flag_of o) gave) half_is;
      }

  -- up to the actor that the heap names
  pub next_gone : (m : Machine S) (w : Wires) (t base at below who count : ℕ) (times : List (Option Time)) (h : Side S) (start : List (Option ℕ)) (places : SidePlaces S) (items0 items : List Record) (flag : Bool) (steps0 steps : ℕ) → base ≤ at → below ≤ base + count → IsLeastDue times (record { 0 = t }) at below who →
      Gone m w t base (at - base) h start places (half_of base count times) items0 items flag steps0 steps → Gone m w t base (who - base) h start places (half_of base count times) items0 items flag steps0 steps
  next_gone m w t base at below who count times h start places items0 items flag steps0 steps from within is was =
      let lo : at ≤ who = is.not_below_from in
      let hi : who < below = is.below_end in
      gone_to m w t base (at - base) (who - base) count times h start places items0 items flag steps0 steps (omega (arith, from, lo)) (omega (arith, from, lo, hi, within))
      (λ k a b. is.least k (omega (arith, a, from)) (omega (arith, b, from, lo))) was

  pub next_chosen : (m : Machine S) (w : Wires) (t base at below who count : ℕ) (times : List (Option Time)) (h : Side S) (start : List (Option ℕ)) → base ≤ at → below ≤ base + count → IsLeastDue times (record { 0 = t }) at below who →
      Noted Due m w t (who - base) h start (half_of base count times) → chosen Due start t (who - base) ≡ true
  next_chosen m w t base at below who count times h start from within is noted =
      let lo : at ≤ who = is.not_below_from in
      let hi : who < below = is.below_end in
      is_chosen m w t base (who - base) who count times h start noted (omega (arith, from, lo, hi, within)) (omega (arith, from, lo)) is.due

  -- when nobody is left
  pub all_gone : (m : Machine S) (w : Wires) (t base at below count : ℕ) (times : List (Option Time)) (h : Side S) (start : List (Option ℕ)) (places : SidePlaces S) (items0 items : List Record) (flag : Bool) (steps0 steps : ℕ) → base ≤ at → at ≤ below → below ≡ base + count → count ≡ length h.states → NoneDue times (record { 0 = t }) at below →
      Gone m w t base (at - base) h start places (half_of base count times) items0 items flag steps0 steps → Gone m w t base (length h.states) h start places (half_of base count times) items0 items flag steps0 steps
  all_gone m w t base at below count times h start places items0 items flag steps0 steps from within end all none was =
      gone_to m w t base (at - base) (length h.states) count times h start places items0 items flag steps0 steps (omega (arith, from, within, end, all)) (omega (arith, all))
      (λ k a b. none k (omega (arith, a, from)) (omega (arith, b, end, all))) was

  pub whole_gone : (m : Machine S) (w : Wires) (t : ℕ) (h : Side S) (start : List (Option ℕ)) (places : SidePlaces S) → ((q : ℕ) → q < length h.ports → owner_of w q < length h.states) → places ≡ whole_side (pass m w (firsts (chosen Due start t) (length h.states)) t h) → places ≡ whole_side (pass m w (chosen Due start t) t h)
  whole_gone m w t h start places owned is =
      is ∙ ap (λ (x : Side S). whole_side x) (pass_same m w (firsts (chosen Due start t) (length h.states)) (chosen Due start t) t h (λ k l. firsts_are (chosen Due start t) (length h.states) k l) owned)

  -- a side within a pass is as fit for a turn as the side before it
  pub record CanTurn (m : Machine S) (w : Wires) (actors actors' : List (Option S)) (ports ports' : List (Option PortView)) (hand room : ℕ) : Type 0 where
    pub full_ports : IsFull ports'
    pub full_actors : IsFull actors'
    pub fits : HasRoom S m w (side_of actors' ports') hand room
    pub long_actors : length actors' ≡ length actors
    pub long_ports : length ports' ≡ length ports

  pub can_turn : (m : Machine S) (valid : S → Type 0) (w : Wires) (stepped : ℕ → Bool) (t : ℕ) (actors actors' : List (Option S)) (ports ports' : List (Option PortView)) (hand room : ℕ) → Lawful m valid → IsFull actors → IsFull ports → HasRoom S m w (side_of actors ports) hand room → IsSound m valid w (side_of actors ports) → t ≤ LATEST_TICK → side_places actors' ports' ≡ whole_side (pass m w stepped t (side_of actors ports)) → CanTurn m w actors actors' ports ports' hand room
  can_turn m valid w stepped t actors actors' ports ports' hand room law fa fp fits sound small is =
      let h = side_of actors ports in
      let k = pass m w stepped t h in
      let a : actors' ≡ alls k.states = ap (λ (x : SidePlaces S). x.actors) is in
      let p : ports' ≡ alls k.ports = ap (λ (x : SidePlaces S). x.ports) is in
      record {
        full_ports = subst (λ x. IsFull x) (sym p) (alls_full k.ports);
        full_actors = subst (λ x. IsFull x) (sym a) (alls_full k.states);
        fits = subst (λ (x : Side S). HasRoom S m w x hand room) (sym (side_alls actors' ports' k.states k.ports a p)) (room_after m valid w h k hand room fits (length_states m w stepped t h) (length_ports m w stepped t h) (pass_sound m valid w stepped t h law fits.wired small sound));
        long_actors = actors_long m w stepped t actors actors' ports ports' fa is;
        long_ports = ports_long m w stepped t actors actors' ports ports' fp is;
      }

  -- there is room for the records of one turn more
  pub room_left : (m : Machine S) (valid : S → Type 0) (w : Wires) (stepped : ℕ → Bool) (t base i room : ℕ) (h : Side S) (items0 items : List Record) → Lawful m valid → Wired w (length h.ports) → IsSound m valid w h → i < length h.states → items ≡ items0 ++ records_to m w stepped t h base i → length items0 + 64 * own_to w (length h.states) ≤ room → length items + 64 * length (own_of w i) ≤ room
  room_left m valid w stepped t base i room h items0 items law wired sound b is enough =
      let fit = records_fit m valid w stepped t h base i law wired sound in
      let some = own_to_grows w i (length h.states) b in
      let long = items_of items items0 (records_to m w stepped t h base i) is in
      omega (arith, fit, some, long, enough)
