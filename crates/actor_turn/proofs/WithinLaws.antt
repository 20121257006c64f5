-- What stays within a pass, where actors and ports all stand in their places.
use Rattle.std.proofs.Common.{◌≡◌, ℕ, ◌≤◌, List, [], ◌∷◌, length, zero, suc, sym, ◌∙◌, ap, refl}
use Rattle.std.specs.Prelude.{Option, Some, Bool, slice_get}
use Rattle.sim_base.specs.declared.time.TheConstants.{LATEST_TICK}
use Rattle.port_msg.specs.PortView.{PortView}
use Rattle.tick_law.specs.Machine.{Machine}
use Rattle.tick_law.specs.WorldPlaces.{SidePlaces, alls, somes}
use Rattle.tick_law.specs.Wires.{Wires, own_of}
use Rattle.tick_law.specs.Pass.{Side, pass}
use Rattle.tick_law.specs.Laws.{Lawful}
use Rattle.model_laws.specs.Pass.{side_places, whole_side}
use Rattle.model_laws.specs.NextTable.{next_seat}
use Rattle.model_laws.proofs.PortsPutBack.{somes-alls}
use Rattle.model_laws.proofs.ActorByActor.{length_states, length_ports}
use Rattle.model_laws.proofs.WorldsAreSound.{room_after}
use Rattle.model_laws.specs.WellFormed.{HasRoom, IsSound}
use Rattle.model_laws.proofs.SleepersChangeNothing.{pass_sound}
use Rattle.actor_turn.specs.Act.{side}
use Rattle.actor_turn.specs.Next.{next_seat_of}

module _ {S : Type 0} where
  -- a side within a pass
  pub record Within (m : Machine S) (w : Wires) (states : List S) (ports ports' : List PortView) (states' : List S) : Type 0 where
    pub long_states : length states' ≡ length states
    pub long_ports : length ports' ≡ length ports
    pub count : (i : ℕ) (s : S) → slice_get states' i ≡ Some s → length (own_of w i) ≡ m.own s

  pub states_of : (states' : List S) (ports' : List PortView) (k : Side S) → side_places (alls states') (alls ports') ≡ whole_side k → states' ≡ k.states
  states_of states' ports' k is = sym (somes-alls states') ∙ ap (λ (x : SidePlaces S). somes x.actors) is ∙ somes-alls k.states

  pub ports_of : (states' : List S) (ports' : List PortView) (k : Side S) → side_places (alls states') (alls ports') ≡ whole_side k → ports' ≡ k.ports
  ports_of states' ports' k is = sym (somes-alls ports') ∙ ap (λ (x : SidePlaces S). somes x.ports) is ∙ somes-alls k.ports

  -- a pass leaves as many actors and ports as it found
  pub states_long : (m : Machine S) (w : Wires) (stepped : ℕ → Bool) (t : ℕ) (states states' : List S) (ports ports' : List PortView) → side_places (alls states') (alls ports') ≡ whole_side (pass m w stepped t (side states ports)) → length states' ≡ length states
  states_long m w stepped t states states' ports ports' is = ap length (states_of states' ports' (pass m w stepped t (side states ports)) is) ∙ length_states m w stepped t (side states ports)

  pub ports_long : (m : Machine S) (w : Wires) (stepped : ℕ → Bool) (t : ℕ) (states states' : List S) (ports ports' : List PortView) → side_places (alls states') (alls ports') ≡ whole_side (pass m w stepped t (side states ports)) → length ports' ≡ length ports
  ports_long m w stepped t states states' ports ports' is = ap length (ports_of states' ports' (pass m w stepped t (side states ports)) is) ∙ length_ports m w stepped t (side states ports)

  pub within : (m : Machine S) (valid : S → Type 0) (w : Wires) (stepped : ℕ → Bool) (t : ℕ) (states states' : List S) (ports ports' : List PortView) (hand room : ℕ) → Lawful m valid → HasRoom S m w (side states ports) hand room → IsSound m valid w (side states ports) → t ≤ LATEST_TICK → side_places (alls states') (alls ports') ≡ whole_side (pass m w stepped t (side states ports)) → Within m w states ports ports' states'
  within m valid w stepped t states states' ports ports' hand room law fits sound small is =
      let h = side states ports in
      let k = pass m w stepped t h in
      let able = room_after m valid w h k hand room fits (length_states m w stepped t h) (length_ports m w stepped t h) (pass_sound m valid w stepped t h law fits.wired small sound) in
      record {
        long_states = states_long m w stepped t states states' ports ports' is;
        long_ports = ports_long m w stepped t states states' ports ports' is;
        count = λ i s e. able.count i s (sym (ap (λ l. slice_get l i) (states_of states' ports' k is)) ∙ e);
      }

  -- the next time that a step leaves, where actors stand in places
  pub seat_at : (m : Machine S) (t : ℕ) (flag : Bool) (old : Option ℕ) (xs : List S) (i : ℕ) → next_seat_of m t flag old (slice_get xs i) ≡ next_seat m t flag old (slice_get (alls xs) i)
  seat_at m t flag old [] i = refl
  seat_at m t flag old (x ∷ xs) zero = refl
  seat_at m t flag old (x ∷ xs) (suc i) = seat_at m t flag old xs i
