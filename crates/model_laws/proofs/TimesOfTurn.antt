-- The next times of both sides after a turn.
use Rattle.std.proofs.Common.{◌≡◌, ℕ, ◌+◌, ◌/◌, ◌<◌, ◌≤◌, ◌⊎◌, inl, inr, List, length, suc, sym, ◌∙◌, ap, arith, refl}
use Rattle.std.specs.Prelude.{Option, Some, Bool, ◌==◌, ◌&&◌, false, true, slice_get, slice_set, IsTrue}
use Rattle.std.proofs.lemmas.Bool.{cases_lt, eq-eqb}
use Rattle.std.proofs.lemmas.Bool.Decides.{nat_tests}
use Rattle.port_msg.specs.PortView.{PortView}
use Rattle.sim_base.specs.declared.time.Time.{Time}
use Rattle.event_queue.specs.NextTimes.{time_of}
use Rattle.tick_law.specs.Machine.{Machine}
use Rattle.tick_law.specs.WorldPlaces.{SidePlaces, IsFull, somes}
use Rattle.tick_law.specs.Wires.{Wires, own_of, owner_of, Has, Wired}
use Rattle.tick_law.specs.Pass.{gather, has_edge, pass, port_at, first}
use Rattle.tick_law.specs.NextTime.{woken}
use Rattle.tick_law.specs.Course.{any_of}
use Rattle.tick_law.specs.Face.{face_differs}
use Rattle.model_laws.specs.Pass.{act_at, side_of, side_places, whole_side}
use Rattle.model_laws.specs.Outcome.{firsts}
use Rattle.model_laws.proofs.DueByDue.{firsts_are, firsts_wait, pass_same, step_more}
use Rattle.model_laws.proofs.ActorByActor.{pass_none, length_states}
use Rattle.model_laws.proofs.OnePortMore.{side_places_is}
use Rattle.model_laws.proofs.PortsPutBack.{length-alls}
use Rattle.model_laws.specs.NextTable.{IsTable, next_at_place}
use Rattle.model_laws.proofs.WokenByPorts.{any_same}
use Rattle.model_laws.specs.SideTimes.{half_of, timed, AreSides}
use Rattle.model_laws.specs.Changed.{changed_of}
use Rattle.model_laws.proofs.SideTimesLaws.{half_in, half_out, half_same, number-timed}

module _ {S : Type 0} where
  pub actors_long : (m : Machine S) (w : Wires) (stepped : ℕ → Bool) (t : ℕ) (actors actors' : List (Option S)) (ports ports' : List (Option PortView)) → IsFull actors → side_places actors' ports' ≡ whole_side (pass m w stepped t (side_of actors ports)) → length actors' ≡ length actors
  actors_long m w stepped t actors actors' ports ports' full e =
      ap (λ (x : SidePlaces S). length x.actors) e ∙ length-alls (pass m w stepped t (side_of actors ports)).states ∙ length_states m w stepped t (side_of actors ports) ∙ sym (ap length full ∙ length-alls (somes actors))

pub full_long : {A : Type 0} (os : List (Option A)) → IsFull os → length (somes os) ≡ length os
full_long os full = sym (ap length full ∙ length-alls (somes os))

-- the own half when the own next time was set and then others were woken
pub own_set : (times set new : List (Option Time)) (base count low others i0 : ℕ) (seat : Option ℕ) → AreSides (length times) base count low others → i0 < count → set ≡ slice_set times (base + i0) (timed seat) → ((i : ℕ) → (i < low) ⊎ (low + others ≤ i) → time_of new i ≡ time_of set i) → half_of base count new ≡ slice_set (half_of base count times) i0 seat
own_set times set new base count low others i0 seat sides b e rest =
    half_same base count new set (λ i l. rest (base + i) (outside i l sides.apart))
    ∙ ap (half_of base count) e
    ∙ half_in base count i0 times (timed seat) b (omega (arith, b, sides.own_within))
    ∙ ap (slice_set (half_of base count times) i0) (number-timed seat)
  where
    outside : (i : ℕ) → i < count → (base + count ≤ low) ⊎ (low + others ≤ base) → (base + i < low) ⊎ (low + others ≤ base + i)
    outside i l (inl a) = inl (omega (arith, l, a))
    outside i l (inr a) = inr (omega (arith, a))

-- the others' half is as it was when only the own next time was set
pub others_left : (times set : List (Option Time)) (base count low others i0 : ℕ) (o : Option Time) → AreSides (length times) base count low others → i0 < count → set ≡ slice_set times (base + i0) o → half_of low others set ≡ half_of low others times
others_left times set base count low others i0 o sides b e = ap (half_of low others) e ∙ half_out low others (base + i0) times o (outside sides.apart)
  where
    outside : (base + count ≤ low) ⊎ (low + others ≤ base) → (base + i0 < low) ⊎ (low + others ≤ base + i0)
    outside (inl a) = inl (omega (arith, b, a))
    outside (inr a) = inr (omega (arith, a))
