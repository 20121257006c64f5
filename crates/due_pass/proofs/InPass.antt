-- A pass over those that are due, one turn after another.
use Rattle.std.proofs.Common.{◌≡◌, ℕ, ◌+◌, ◌<◌, ◌≤◌, List, length, map, suc, sym, ◌∙◌, ap, subst, arith, refl}
use Rattle.std.specs.Prelude.{Bool, true, false, ◌||◌, slice_get, slice_set}
use Rattle.bit_set.specs.Bits.{is_in, IsNext, NoneIn}
use Rattle.tick_law.specs.Machine.{Machine}
use Rattle.tick_law.specs.Wires.{own_of, Wired}
use Rattle.tick_law.specs.Pass.{pass}
use Rattle.tick_law.specs.Laws.{Lawful}
use Rattle.model_laws.specs.Outcome.{firsts}
use Rattle.model_laws.specs.NextTable.{next_at_place}
use Rattle.model_laws.specs.SideTimes.{half_of, AreSides}
use Rattle.model_laws.proofs.SideTimesLaws.{length-half}
use Rattle.model_laws.proofs.TurnByTurn.{Gone, whole_gone, room_left}
use Rattle.model_laws.proofs.ShownByTurns.{woken_none, woken_then}
use Rattle.port_row.specs.Row.{face_of}
use Rattle.actor_turn.specs.declared.side.SideGear.{SideGear}
use Rattle.actor_turn.specs.Side.{times_of, edge_of, wake_time}
use Rattle.actor_turn.specs.Next.{next_seat_of}
use Rattle.actor_turn.specs.Turn.{TurnState, side_in, places_in, own_next, CanTurn, HasTurned}
use Rattle.actor_turn.specs.Waking.{CanWake}
use Rattle.actor_turn.proofs.WakingLaws.{can_wake_still}
use Rattle.due_pass.specs.Pass.{CanPass, HasPassed, HasWoken, AreMarked, is_due}
use Rattle.actor_turn.proofs.WithinLaws.{Within, within, ports_of}
use Rattle.due_pass.proofs.PassGlue.{glue_none, glue_turn, gone_upto}

module _ {S : Type 0} where
  -- what is true when those below `at` have had their turns
  pub record InPass (m : Machine S) (part : Bool) (mine others : SideGear) (t at : ℕ) (old now : TurnState S) (flag : Bool) : Type 0 where
    pub gone : Gone m mine.wiring t mine.first at (side_in old) (own_next mine old) (places_in now) (half_of mine.first (length old.actors) now.next) old.recs.items now.recs.items flag old.steps now.steps
    pub woke : HasWoken part others t old now
    pub all_next : length now.next ≡ length old.next
    pub wires : now.rows.wires ≡ old.rows.wires
    pub settled : now.rows.seen ≡ map face_of now.rows.ports
    pub room : now.recs.room ≡ old.recs.room

  -- nobody has had a turn
  pub in_pass_none : (m : Machine S) (valid : S → Type 0) (part : Bool) (mine others : SideGear) (t : ℕ) (old : TurnState S) → CanPass m valid mine others t old → InPass m part mine others t 0 old old false
  in_pass_none m valid part mine others t old can = record {
    gone = glue_none m mine.wiring t mine.first old.actors old.rows.ports (own_next mine old) old.recs.items old.steps;
    woke = woken_none part old.rows.ports others.wiring (edge_of others (wake_time part t)) (times_of others old.next) (length others.periods.items) (length-half others.first (length others.periods.items) old.next);
    all_next = refl;
    wires = refl;
    settled = can.settled;
    room = refl;
  }

  -- those that are not due are passed over
  in_pass_to : (m : Machine S) (part : Bool) (mine others : SideGear) (t at n : ℕ) (old now : TurnState S) (flag : Bool) → at ≤ n → ((j : ℕ) → at ≤ j → j < n → is_due mine t old j ≡ false) → InPass m part mine others t at old now flag → InPass m part mine others t n old now flag
  in_pass_to m part mine others t at n old now flag b rests was = record {
    gone = gone_upto m mine.wiring t mine.first at n (side_in old) (own_next mine old) (places_in now) (half_of mine.first (length old.actors) now.next) old.recs.items now.recs.items flag old.steps now.steps b rests was.gone;
    woke = was.woke;
    all_next = was.all_next;
    wires = was.wires;
    settled = was.settled;
    room = was.room;
  }

  fits_still : (m : Machine S) (valid : S → Type 0) (part : Bool) (mine others : SideGear) (t at : ℕ) (old now : TurnState S) (flag : Bool) → Lawful m valid → CanPass m valid mine others t old → InPass m part mine others t at old now flag → Within m mine.wiring old.actors old.rows.ports now.rows.ports now.actors
  fits_still m valid part mine others t at old now flag law can was =
      within m valid mine.wiring (firsts (is_due mine t old) at) t old.actors now.actors old.rows.ports now.rows.ports old.recs.room old.recs.room law can.fits can.sound (omega (arith, can.time)) was.gone.places_are

  -- the next one can have its turn
  can_turn : (m : Machine S) (valid : S → Type 0) (part : Bool) (mine others : SideGear) (t i : ℕ) (old now : TurnState S) (flag : Bool) → Lawful m valid → CanPass m valid mine others t old → i < length old.actors → InPass m part mine others t i old now flag → CanTurn m mine others i t now
  can_turn m valid part mine others t i old now flag law can b was =
      let able = fits_still m valid part mine others t i old now flag law can was in
      let left = room_left m valid mine.wiring (is_due mine t old) t mine.first i old.recs.room (side_in old) old.recs.items now.recs.items law can.fits.wired can.sound b was.gone.records_are can.enough in
      record {
        here = omega (arith, b, able.long_states);
        wired = subst (λ k. Wired mine.wiring k) (sym able.long_ports) can.fits.wired;
        rows = can.fits.same ∙ sym able.long_states;
        settled = was.settled;
        count = able.count i;
        time = can.time;
        room = omega (arith, left, was.room);
        wakes = subst (λ k. CanWake others k now.next) (sym able.long_ports) (can_wake_still others (length old.rows.ports) old.next now.next can.wakes was.all_next);
        sides = subst (λ k. AreSides (length now.next) mine.first k others.first (length others.periods.items)) (sym able.long_states)
            (subst (λ k. AreSides k mine.first (length old.actors) others.first (length others.periods.items)) (sym was.all_next) can.sides);
        few = omega (arith, can.few, able.long_states);
      }

  -- one turn more
  in_pass_more : (m : Machine S) (valid : S → Type 0) (part : Bool) (mine others : SideGear) (t i : ℕ) (old now new : TurnState S) (flag turned more : Bool) → Lawful m valid → CanPass m valid mine others t old → i < length old.actors → is_due mine t old i ≡ true → InPass m part mine others t i old now flag → HasTurned m part mine others i t now new turned → more ≡ (flag || turned) → InPass m part mine others t (i + 1) old new more
  in_pass_more m valid part mine others t i old now new flag turned more law can b due was did either =
      let w = mine.wiring in
      let n = length old.actors in
      let base = mine.first in
      let low = others.first in
      let count = length others.periods.items in
      let able = fits_still m valid part mine others t i old now flag law can was in
      let half_is = subst (λ k. half_of base k new.next ≡ slice_set (half_of base k now.next) i (next_seat_of m t turned (next_at_place (half_of base k now.next) i) (slice_get new.actors i))) able.long_states
      (subst (λ k. half_of base k new.next ≡ slice_set (half_of base (length now.actors) now.next) i (next_seat_of m t turned (next_at_place (half_of base (length now.actors) now.next) i) (slice_get new.actors i))) did.all_actors did.own) in
      let gone : Gone m w t base (suc i) (side_in old) (own_next mine old) (places_in new) (half_of base n new.next) old.recs.items new.recs.items more old.steps new.steps =
      glue_turn m valid w (own_of w i) t base i (side_in old) (own_next mine old) now.actors new.actors now.rows.ports new.rows.ports (half_of base n now.next) (half_of base n new.next) old.recs.items now.recs.items new.recs.items flag turned more old.steps now.steps new.steps refl law can.fits.wired can.sound (length-half base n old.next) b due was.gone did.places_are did.gives_all did.records_are did.flag_is either did.steps_are half_is in
      record {
        gone = subst (λ k. Gone m w t base k (side_in old) (own_next mine old) (places_in new) (half_of base n new.next) old.recs.items new.recs.items more old.steps new.steps) (let z : suc i ≡ i + 1 = omega arith in z) gone;
        woke = woken_then m w others.wiring (is_due mine t old) t i (side_in old) part now.rows.ports new.rows.ports (edge_of others (wake_time part t)) (times_of others old.next) (times_of others now.next) (times_of others new.next) count can.fits.wired can.wakes.wakes.wired
            (ports_of now.actors now.rows.ports (pass m w (firsts (is_due mine t old) i) t (side_in old)) was.gone.places_are)
            (ports_of new.actors new.rows.ports (pass m w (firsts (is_due mine t old) (suc i)) t (side_in old)) gone.places_are)
            was.woke did.woken_are;
        all_next = did.all_next ∙ was.all_next;
        wires = did.wires ∙ was.wires;
        settled = did.settled;
        room = did.room ∙ was.room;
      }

  -- the next member of the set is an actor
  pub next_below : (due due' : List Bool) (at i : ℕ) (old : TurnState S) → due' ≡ due → length due ≡ length old.actors → IsNext due' at i → i < length old.actors
  next_below due due' at i old same long next = omega (arith, next.within, ap length same, long)

  -- those before it are passed over
  to_next : (m : Machine S) (part : Bool) (mine others : SideGear) (due due' : List Bool) (t at i : ℕ) (old now : TurnState S) (flag : Bool) → due' ≡ due → length due ≡ length old.actors → AreMarked due mine t old → IsNext due' at i → InPass m part mine others t at old now flag → InPass m part mine others t i old now flag
  to_next m part mine others due due' t at i old now flag same long marked next was =
      in_pass_to m part mine others t at i old now flag next.not_below (λ j a l. sym (marked j (omega (arith, l, next_below due due' at i old same long next))) ∙ sym (ap (λ d. is_in d j) same) ∙ next.least j a l) was

  -- it can have its turn
  pub next_can_turn : (m : Machine S) (valid : S → Type 0) (part : Bool) (mine others mine' others' : SideGear) (due due' : List Bool) (t at i : ℕ) (old now : TurnState S) (flag : Bool) → Lawful m valid → CanPass m valid mine others t old → mine' ≡ mine → others' ≡ others → due' ≡ due → length due ≡ length old.actors → AreMarked due mine t old → IsNext due' at i → InPass m part mine others t at old now flag → CanTurn m mine' others' i t now
  next_can_turn m valid part mine others mine' others' due due' t at i old now flag law can own other same long marked next was =
      subst (λ (s : SideGear). CanTurn m s others' i t now) (sym own)
      (subst (λ (s : SideGear). CanTurn m mine s i t now) (sym other)
      (can_turn m valid part mine others t i old now flag law can (next_below due due' at i old same long next) (to_next m part mine others due due' t at i old now flag same long marked next was)))

  -- and has had it
  pub next_turned : (m : Machine S) (valid : S → Type 0) (part : Bool) (mine others mine' others' : SideGear) (due due' : List Bool) (t at i : ℕ) (old now : TurnState S) (new : TurnState S) (flag turned more : Bool) → Lawful m valid → CanPass m valid mine others t old → mine' ≡ mine → others' ≡ others → due' ≡ due → length due ≡ length old.actors → AreMarked due mine t old → IsNext due' at i → InPass m part mine others t at old now flag → HasTurned m part mine' others' i t now new turned → more ≡ (flag || turned) → InPass m part mine others t (i + 1) old new more
  next_turned m valid part mine others mine' others' due due' t at i old now new flag turned more law can own other same long marked next was did either =
      let below = next_below due due' at i old same long next in
      in_pass_more m valid part mine others t i old now new flag turned more law can below (sym (marked i below) ∙ sym (ap (λ d. is_in d i) same) ∙ next.here)
      (to_next m part mine others due due' t at i old now flag same long marked next was)
      (subst (λ (s : SideGear). HasTurned m part s others i t now new turned) own (subst (λ (s : SideGear). HasTurned m part mine' s i t now new turned) other did)) either

  -- when nobody is left
  in_pass_all : (m : Machine S) (valid : S → Type 0) (part : Bool) (mine others : SideGear) (t at : ℕ) (old now : TurnState S) (flag : Bool) → Lawful m valid → CanPass m valid mine others t old → at ≤ length old.actors → ((j : ℕ) → at ≤ j → j < length old.actors → is_due mine t old j ≡ false) → InPass m part mine others t at old now flag → HasPassed m part mine others t old now flag
  in_pass_all m valid part mine others t at old now flag law can b rests was =
      let n = length old.actors in
      let done = in_pass_to m part mine others t at n old now flag b rests was in
      let able = fits_still m valid part mine others t n old now flag law can done in
      record {
        places_are = whole_gone m mine.wiring t (side_in old) (own_next mine old) (places_in now) can.fits.owned done.gone.places_are;
        all_actors = able.long_states;
        noted = record { long = length-half mine.first n now.next; at = λ i l. done.gone.noted.done i l };
        woken_are = was.woke;
        all_next = was.all_next;
        wires = was.wires;
        settled = was.settled;
        room = was.room;
        records_are = done.gone.records_are;
        flag_is = done.gone.flag_is;
        steps_are = done.gone.steps_are;
      }

  -- where no member of the set is left
  pub none_next : (m : Machine S) (valid : S → Type 0) (part : Bool) (mine others : SideGear) (due due' : List Bool) (t at : ℕ) (old now : TurnState S) (flag : Bool) → Lawful m valid → CanPass m valid mine others t old → due' ≡ due → length due ≡ length old.actors → AreMarked due mine t old → at ≤ length old.actors → NoneIn due' at (length due') → InPass m part mine others t at old now flag → HasPassed m part mine others t old now flag
  none_next m valid part mine others due due' t at old now flag law can same long marked b none was =
      in_pass_all m valid part mine others t at old now flag law can b (λ j a l. sym (marked j l) ∙ sym (ap (λ d. is_in d j) same) ∙ none j a (omega (arith, l, ap length same, long))) was
