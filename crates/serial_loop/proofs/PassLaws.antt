-- One actor more in a pass over everybody.
use Rattle.std.proofs.Common.{◌≡◌, ℕ, ◌+◌, ◌/◌, ◌<◌, List, ◌++◌, length, suc, sym, ◌∙◌, ap, subst, refl, arith, append-nil, add-one}
use Rattle.std.specs.Prelude.{Option, Bool, false, ◌||◌, slice_get, slice_set}
use Rattle.tick_law.specs.Machine.{Machine}
use Rattle.tick_law.specs.WorldPlaces.{alls}
use Rattle.tick_law.specs.Wires.{own_of, Wired}
use Rattle.tick_law.specs.Pass.{Side, gather, pass, everyone}
use Rattle.tick_law.specs.Outcomes.{outcome, flag_of, records_to, stirs_to, steps_to}
use Rattle.tick_law.specs.Laws.{Lawful}
use Rattle.model_laws.specs.Pass.{whole_side}
use Rattle.model_laws.specs.Outcome.{firsts, outcome_at}
use Rattle.model_laws.proofs.DueByDue.{firsts_are, pass_same, step_more, outcome_more, records_more, stirs_more, steps_more}
use Rattle.model_laws.proofs.PortsPutBack.{somes-alls}
use Rattle.model_laws.proofs.ActorByActor.{pass_none}
use Rattle.model_laws.proofs.TurnByTurn.{room_left}
use Rattle.model_laws.specs.NextTable.{next_at_place}
use Rattle.model_laws.specs.Stepping.{Everyone}
use Rattle.model_laws.proofs.NextTimesNoted.{Noted, noted_more}
use Rattle.actor_turn.specs.declared.side.SideGear.{SideGear}
use Rattle.actor_turn.specs.Next.{next_seat_of}
use Rattle.actor_turn.specs.Act.{ActState, CanAct, HasActed, side_acting, places_acting}
use Rattle.actor_turn.proofs.WithinLaws.{Within, within, states_long, seat_at}
use Rattle.run_gear.specs.declared.gear.Gear.{Gear}
use Rattle.serial_loop.specs.Pass.{CanPass, HasPassed, GearStays}

pub stays_none : (g : Gear) → GearStays g g
stays_none g = record { parts = refl; links = refl; hands = refl }

module _ {S : Type 0} where
  -- what is true when the actors below i have stepped
  pub record InPass (m : Machine S) (mine : SideGear) (t i : ℕ) (old : ActState S) (start : List (Option ℕ)) (now : ActState S) (next : List (Option ℕ)) (flag : Bool) : Type 0 where
    pub places_are : places_acting now ≡ whole_side (pass m mine.wiring (firsts everyone i) t (side_acting old))
    pub records_are : now.recs.items ≡ old.recs.items ++ records_to m mine.wiring everyone t (side_acting old) mine.first i
    pub flag_is : flag ≡ stirs_to m mine.wiring everyone t (side_acting old) i
    pub steps_are : now.steps ≡ old.steps + steps_to m mine.wiring everyone t (side_acting old) i
    pub noted : Noted Everyone m mine.wiring t i (side_acting old) start next
    pub seen : now.rows.seen ≡ old.rows.seen
    pub wires : now.rows.wires ≡ old.rows.wires
    pub room : now.recs.room ≡ old.recs.room

  -- nobody has stepped
  pub in_pass_none : (m : Machine S) (mine : SideGear) (t : ℕ) (old : ActState S) (start : List (Option ℕ)) → InPass m mine t 0 old start old start false
  in_pass_none m mine t old start = record {
    places_are = ap (λ (h : Side S). whole_side h) (sym (pass_none m mine.wiring t (side_acting old)));
    records_are = sym (append-nil old.recs.items);
    flag_is = refl;
    steps_are = omega arith;
    noted = record { long = refl; done = λ k l. absurd (omega arith); left = λ k l. refl };
    seen = refl;
    wires = refl;
    room = refl;
  }

  fits_still : (m : Machine S) (valid : S → Type 0) (mine : SideGear) (t i : ℕ) (old now : ActState S) (start next : List (Option ℕ)) (flag : Bool) → Lawful m valid → CanPass m valid mine t old start → InPass m mine t i old start now next flag → Within m mine.wiring old.actors old.rows.ports now.rows.ports now.actors
  fits_still m valid mine t i old now start next flag law can was =
      within m valid mine.wiring (firsts everyone i) t old.actors now.actors old.rows.ports now.rows.ports old.recs.room old.recs.room law can.fits can.sound (omega (arith, can.time)) was.places_are

  -- the next one can step
  pub can_act : (m : Machine S) (valid : S → Type 0) (mine : SideGear) (t i : ℕ) (old now : ActState S) (start next : List (Option ℕ)) (flag : Bool) → Lawful m valid → CanPass m valid mine t old start → i < length old.actors → InPass m mine t i old start now next flag → CanAct m mine i t now
  can_act m valid mine t i old now start next flag law can b was =
      let able = fits_still m valid mine t i old now start next flag law can was in
      let left = room_left m valid mine.wiring everyone t mine.first i old.recs.room (side_acting old) old.recs.items now.recs.items law can.fits.wired can.sound b was.records_are can.enough in
      record {
        here = omega (arith, b, able.long_states);
        rows = can.fits.same ∙ sym able.long_states;
        wired = subst (λ k. Wired mine.wiring k) (sym able.long_ports) can.fits.wired;
        count = able.count i;
        time = omega (arith, can.time);
        room = omega (arith, left, was.room);
        few = omega (arith, can.few, able.long_states);
      }

  pub states_still : (m : Machine S) (mine : SideGear) (t i : ℕ) (old now : ActState S) (start next : List (Option ℕ)) (flag : Bool) → InPass m mine t i old start now next flag → length now.actors ≡ length old.actors
  states_still m mine t i old now start next flag was = states_long m mine.wiring (firsts everyone i) t old.actors now.actors old.rows.ports now.rows.ports was.places_are

  -- one step more
  pub in_pass_more : (m : Machine S) (valid : S → Type 0) (mine : SideGear) (t i : ℕ) (old now new : ActState S) (start next new_next : List (Option ℕ)) (flag turned more : Bool) → Lawful m valid → CanPass m valid mine t old start → i < length old.actors → InPass m mine t i old start now next flag → HasActed m mine i t now new turned → more ≡ (flag || turned) →
      new_next ≡ slice_set next i (next_seat_of m t turned (next_at_place next i) (slice_get new.actors i)) → InPass m mine t (i + 1) old start new new_next more
  in_pass_more m valid mine t i old now new start next new_next flag turned more law can b was did either set_is =
      let h = side_acting old in
      let w = mine.wiring in
      let own = own_of w i in
      let o = slice_get (alls now.actors) i in
      let e = somes-alls now.rows.ports in
      let made = outcome_at m own t now.rows.ports o in
      let gave : made ≡ outcome m w everyone t h i = ap (λ ps. outcome_at m own t ps o) (sym e) ∙ outcome_more m w everyone t i h (places_acting now) own refl can.fits.wired refl was.places_are b in
      let places : places_acting new ≡ whole_side (pass m w (firsts everyone (suc i)) t h) =
      step_more m w everyone t i h (places_acting now) (places_acting new) own refl can.fits.wired refl was.places_are b did.places_are (λ s at edge. subst (λ ps. length (m.step s (gather ps own) (t / m.period s)).ports ≡ length own) (sym e) (did.gives_all s at edge)) in
      let to = add-one i in
      record {
        places_are = places ∙ ap (λ k. whole_side (pass m w (firsts everyone k) t h)) (sym to);
        records_are = did.records_are ∙ records_more m w everyone t i h mine.first made old.recs.items now.recs.items gave was.records_are ∙ ap (λ k. old.recs.items ++ records_to m w everyone t h mine.first k) (sym to);
        flag_is = either ∙ ap (λ x. flag || x) did.flag_is ∙ stirs_more m w everyone t i h made flag gave was.flag_is ∙ ap (λ k. stirs_to m w everyone t h k) (sym to);
        steps_are = did.steps_are ∙ steps_more m w everyone t i h made old.steps now.steps gave was.steps_are ∙ ap (λ k. old.steps + steps_to m w everyone t h k) (sym to);
        noted = subst (λ k. Noted Everyone m w t k h start new_next) (sym to)
            (noted_more Everyone m valid w t i h start next new_next (alls new.actors) (alls new.rows.ports) turned law can.fits.wired can.sound can.all_next b refl was.noted places (did.flag_is ∙ ap (λ x. flag_of x) gave) (set_is ∙ ap (slice_set next i) (seat_at m t turned (next_at_place next i) new.actors i)));
        seen = did.seen ∙ was.seen;
        wires = did.wires ∙ was.wires;
        room = did.room ∙ was.room;
      }

  -- when everybody has stepped
  pub in_pass_all : (m : Machine S) (valid : S → Type 0) (mine : SideGear) (t i : ℕ) (old now : ActState S) (start next : List (Option ℕ)) (flag : Bool) → CanPass m valid mine t old start → i ≡ length old.actors → InPass m mine t i old start now next flag → HasPassed m mine t old start now next flag
  in_pass_all m valid mine t i old now start next flag can end was =
      let h = side_acting old in
      let w = mine.wiring in
      let n = length old.actors in
      record {
        places_are =
            was.places_are
            ∙ ap (λ k. whole_side (pass m w (firsts everyone k) t h)) end
            ∙ ap (λ (x : Side S). whole_side x) (pass_same m w (firsts everyone n) everyone t h (λ k l. firsts_are everyone n k l) can.fits.owned);
        noted = record { long = was.noted.long ∙ can.all_next; at = λ k l. was.noted.done k (omega (arith, l, end)) };
        seen = was.seen;
        wires = was.wires;
        room = was.room;
        records_are = was.records_are ∙ ap (λ k. old.recs.items ++ records_to m w everyone t h mine.first k) end;
        flag_is = was.flag_is ∙ ap (λ k. stirs_to m w everyone t h k) end;
        steps_are = was.steps_are ∙ ap (λ k. old.steps + steps_to m w everyone t h k) end;
      }
