-- What a turn leaves of what was seen, and whom it wakes.
use Rattle.std.proofs.Common.{◌≡◌, ℕ, ◌+◌, ◌<◌, ◌⊎◌, inl, inr, List, length, map, take, sym, ◌∙◌, ap, subst, arith, refl}
use Rattle.std.specs.Prelude.{Option, Some, Bool, true, false, ◌==◌, ◌&&◌, slice_get, slice_set}
use Rattle.std.proofs.lemmas.List.{take_all, ext_get_or, length-map, length-set}
use Rattle.sim_base.specs.declared.time.Time.{Time}
use Rattle.port_msg.specs.PortView.{PortView}
use Rattle.port_row.specs.Row.{face_at, face_of, no_face}
use Rattle.port_row.proofs.RowLaws.{face-map}
use Rattle.port_rows.specs.Rows.{RowsView, other_face}
use Rattle.tick_law.specs.Wires.{own_of, Has}
use Rattle.tick_law.specs.Pass.{port_at}
use Rattle.tick_law.specs.Face.{face_differs}
use Rattle.tick_law.specs.NextTime.{woken}
use Rattle.tick_law.specs.Course.{any_of}
use Rattle.model_laws.proofs.PortsPutBack.{has_or_not}
use Rattle.model_laws.specs.NextTable.{IsTable, next_at_place}
use Rattle.model_laws.proofs.WokenByPorts.{any_same}
use Rattle.model_laws.specs.Changed.{changed_of}
use Rattle.model_laws.specs.SideTimes.{half_of, number_of, timed}
use Rattle.model_laws.proofs.SideTimesLaws.{half_at}
use Rattle.model_laws.proofs.TimesOfTurn.{own_set, others_left}
use Rattle.event_queue.specs.NextTimes.{time_of}
use Rattle.tick_law.specs.Machine.{Machine}
use Rattle.tick_law.specs.WorldPlaces.{alls}
use Rattle.model_laws.specs.Pass.{side_places}
use Rattle.actor_turn.specs.Next.{left_by, next_seat_of}
use Rattle.actor_turn.specs.Act.{ActState, CanAct, HasActed}
use Rattle.actor_turn.specs.Turn.{TurnState, CanTurn, HasTurned, acting, own_next}
use Rattle.actor_turn.proofs.WakingLaws.{can_wake_still}
use Rattle.actor_turn.specs.Waking.{CanWake}
use Rattle.actor_turn.specs.Side.{wake_time}
use Rattle.actor_turn.specs.declared.side.SideGear.{SideGear}
use Rattle.actor_turn.specs.Hit.{hit}
use Rattle.actor_turn.specs.Waking.{Waking, shows_other}
use Rattle.actor_turn.specs.Side.{edge_of}

whole : (own : List ℕ) → take (length own) own ≡ own
whole own = take_all (length own) own (omega arith)

-- all is settled again
pub settled_after : (part : Bool) (own : List ℕ) (others : SideGear) (from : ℕ) (before : List PortView) (old now : RowsView) (start next : List (Option Time)) → Waking part own others from old start (length own) now next → old.seen ≡ map face_of before → length old.ports ≡ length before → ((q : ℕ) → (Has own q → ⊥) → port_at old.ports q ≡ port_at before q) → now.seen ≡ map face_of now.ports
settled_after part own others from before old now start next w seen long same =
    ext_get_or no_face now.seen (map face_of now.ports) (w.long ∙ ap length seen ∙ length-map before face_of ∙ sym long ∙ sym (ap length w.ports) ∙ sym (length-map now.ports face_of))
    (λ q b. at q (omega (arith, b, w.long, ap length seen, length-map before face_of)) (has_or_not own q) ∙ sym (face-map now.ports q (omega (arith, b, w.long, ap length seen, length-map before face_of, long, ap length w.ports))))
  where
    at : (q : ℕ) → q < length before → Has own q ⊎ (Has own q → ⊥) → face_at now.seen q ≡ face_of (port_at now.ports q)
    at q b (inl h) = w.settled q (subst (λ l. Has l q) (sym (whole own)) h) ∙ sym (ap (λ l. face_of (port_at l q)) w.ports)
    at q b (inr n) =
        w.left q (λ h. n (subst (λ l. Has l q) (whole own) h))
        ∙ ap (λ l. face_at l q) seen
        ∙ face-map before q b
        ∙ ap face_of (sym (same q n))
        ∙ sym (ap (λ l. face_of (port_at l q)) w.ports)

pub differs_so : (part : Bool) (a b : PortView) → other_face part (face_of a) (face_of b) ≡ face_differs part a b
differs_so true a b = refl
differs_so false a b = refl

-- those whom a turn wakes
pub woken_after : (part : Bool) (own mine : List ℕ) (others : SideGear) (from : ℕ) (before : List PortView) (old now : RowsView) (first start next : List (Option Time)) → Waking part mine others from old start (length mine) now next → mine ≡ own → old.seen ≡ map face_of before → ((q : ℕ) → Has own q → q < length before) → half_of others.first (length others.periods.items) start ≡ half_of others.first (length others.periods.items) first →
    IsTable (half_of others.first (length others.periods.items) next) (λ j. woken (any_of (changed_of part before now.ports own) (own_of others.wiring j)) (edge_of others from j) (next_at_place (half_of others.first (length others.periods.items) first) j)) (length others.periods.items)
woken_after part own mine others from before old now first start next w e seen within half = record {
  long = w.woken.long;
  at = λ j b.
      w.woken.at j b
      ∙ ap (λ t. woken (any_of (hit (shows_other part old) (take (length mine) mine)) (own_of others.wiring j)) (edge_of others from j) (next_at_place t j)) half
      ∙ ap (λ x. woken x (edge_of others from j) (next_at_place (half_of others.first (length others.periods.items) first) j)) (any_same (hit (shows_other part old) (take (length mine) mine)) (changed_of part before now.ports own) (own_of others.wiring j) (λ q h. ap (λ l. hit (shows_other part old) l q) (whole mine ∙ e) ∙ each q));
}
  where
    one : (x : ℕ) → Has own x → shows_other part old x ≡ face_differs part (port_at before x) (port_at now.ports x)
    one x h =
        ap (λ l. other_face part (face_at l x) (face_of (port_at old.ports x))) seen
        ∙ ap (λ f. other_face part f (face_of (port_at old.ports x))) (face-map before x (within x h))
        ∙ ap (λ l. other_face part (face_of (port_at before x)) (face_of (port_at l x))) (sym w.ports)
        ∙ differs_so part (port_at before x) (port_at now.ports x)

    each : (q : ℕ) → hit (shows_other part old) own q ≡ changed_of part before now.ports own q
    each q = any_same (λ x. (x == q) && shows_other part old x) (λ x. (x == q) && face_differs part (port_at before x) (port_at now.ports x)) own (λ x h. ap (λ b. (x == q) && b) (one x h))

module _ {S : Type 0} where
  -- an actor that has its turn can step
  pub can_act : (m : Machine S) (mine others : SideGear) (i t : ℕ) (old : TurnState S) → CanTurn m mine others i t old → CanAct m mine i t (acting old)
  can_act m mine others i t old can = record {
    here = can.here;
    rows = can.rows;
    wired = can.wired;
    count = can.count;
    time = omega (arith, can.time);
    room = can.room;
    few = can.few;
  }

  -- the others can be woken after a step
  pub can_wake_then : (m : Machine S) (mine others : SideGear) (i t : ℕ) (old : TurnState S) (ports : ℕ) (next : List (Option Time)) (who : ℕ) (o : Option Time) → CanTurn m mine others i t old → ports ≡ length old.rows.ports → next ≡ slice_set old.next who o → CanWake others ports next
  can_wake_then m mine others i t old ports next who o can long noted =
      subst (λ n. CanWake others n next) (sym long)
      (can_wake_still others (length old.rows.ports) old.next next can.wakes (ap length noted ∙ length-set old.next who o))

  -- a step, its next time and its wakes make a turn
  pub turned : (m : Machine S) (part : Bool) (mine others : SideGear) (i t : ℕ) (old : TurnState S) (acted : ActState S) (read : List ℕ) (rows : RowsView) (next1 next2 : List (Option Time)) (flag : Bool) (s : S) → CanTurn m mine others i t old → HasActed m mine i t (acting old) acted flag → read ≡ own_of mine.wiring i → slice_get acted.actors i ≡ Some s →
      next1 ≡ slice_set old.next (mine.first + i) (timed (left_by m t flag (number_of (time_of old.next (mine.first + i))) s)) →
      Waking part read others (wake_time part t) acted.rows next1 (length read) rows next2 →
      HasTurned m part mine others i t old (record { actors = acted.actors; rows = rows; next = next2; recs = acted.recs; steps = acted.steps }) flag
  turned m part mine others i t old acted read rows next1 next2 flag s can did own_is at noted woke =
      let own = own_of mine.wiring i in
      let w = subst (λ x. Waking part x others (wake_time part t) acted.rows next1 (length x) rows next2) own_is woke in
      let who = mine.first + i in
      let n = length old.actors in
      let low = others.first in
      let count = length others.periods.items in
      let seat = left_by m t flag (number_of (time_of old.next who)) s in
      let before : number_of (time_of old.next who) ≡ next_at_place (own_next mine old) i = sym (half_at mine.first n old.next i can.here) in
      let seat_is : seat ≡ next_seat_of m t flag (next_at_place (own_next mine old) i) (slice_get acted.actors i) =
      ap (λ o. left_by m t flag o s) before ∙ sym (ap (next_seat_of m t flag (next_at_place (own_next mine old) i)) at) in
      let seen : acted.rows.seen ≡ map face_of old.rows.ports = did.seen ∙ can.settled in
      record {
        places_are = ap (λ l. side_places (alls acted.actors) (alls l)) w.ports ∙ did.places_are;
        all_actors = did.all_actors;
        wires = w.wires ∙ did.wires;
        settled = settled_after part own others (wake_time part t) old.rows.ports acted.rows rows next1 next2 w seen did.long did.others;
        long = ap length w.ports ∙ did.long;
        room = did.room;
        records_are = did.records_are;
        flag_is = did.flag_is;
        steps_are = did.steps_are;
        gives_all = did.gives_all;
        all_next = w.all ∙ ap length noted ∙ length-set old.next who (timed seat);
        own =
            ap (λ k. half_of mine.first k next2) did.all_actors
            ∙ own_set old.next next1 next2 mine.first n low count i seat can.sides can.here noted w.rest
            ∙ ap (slice_set (own_next mine old) i) seat_is;
        woken_are = woken_after part own own others (wake_time part t) old.rows.ports acted.rows rows old.next next1 next2 w refl seen (λ q h. can.wired.within i q h)
            (others_left old.next next1 mine.first n low count i (timed seat) can.sides can.here noted);
      }
