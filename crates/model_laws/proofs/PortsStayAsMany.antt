-- A pass leaves as many ports as it found.
use Rattle.std.proofs.Common.{◌≡◌, ℕ, ◌<◌, List, length, sym, ◌∙◌, ap, subst}
use Rattle.std.specs.Prelude.{Option, Bool}
use Rattle.port_msg.specs.PortView.{PortView}
use Rattle.tick_law.specs.Machine.{Machine}
use Rattle.tick_law.specs.WorldPlaces.{SidePlaces, somes, IsFull}
use Rattle.tick_law.specs.Wires.{Wires, own_of, Wired}
use Rattle.tick_law.specs.Pass.{port_at, pass}
use Rattle.model_laws.specs.Pass.{side_of, side_places, whole_side}
use Rattle.model_laws.proofs.PortsPutBack.{alls_full, length-alls}
use Rattle.model_laws.proofs.ActorByActor.{length_ports}
use Rattle.tick_law.specs.NextTime.{woken}
use Rattle.tick_law.specs.Course.{any_of}
use Rattle.tick_law.specs.Face.{face_differs}
use Rattle.model_laws.specs.NextTable.{IsTable, next_at_place}
use Rattle.model_laws.proofs.WokenByPorts.{any_same}

module _ {S : Type 0} where
  pub ports_long : (m : Machine S) (w : Wires) (stepped : ℕ → Bool) (t : ℕ) (actors seats' : List (Option S)) (ports ports' : List (Option PortView)) → IsFull ports → side_places seats' ports' ≡ whole_side (pass m w stepped t (side_of actors ports)) → length ports' ≡ length ports
  ports_long m w stepped t actors seats' ports ports' full e =
      ap (λ (x : SidePlaces S). length x.ports) e ∙ length-alls (pass m w stepped t (side_of actors ports)).ports ∙ length_ports m w stepped t (side_of actors ports) ∙ sym (ap length full ∙ length-alls (somes ports))

  pub ports_full : (m : Machine S) (w : Wires) (stepped : ℕ → Bool) (t : ℕ) (actors seats' : List (Option S)) (ports ports' : List (Option PortView)) → side_places seats' ports' ≡ whole_side (pass m w stepped t (side_of actors ports)) → IsFull ports'
  ports_full m w stepped t actors seats' ports ports' e = subst (λ (x : SidePlaces S). IsFull x.ports) (sym e) (alls_full (pass m w stepped t (side_of actors ports)).ports)
