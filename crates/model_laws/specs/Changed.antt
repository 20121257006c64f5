-- Which faces of ports changed.
use Rattle.std.specs.Prelude.{ℕ, ◌==◌, ◌&&◌, List, Bool}
use Rattle.port_msg.specs.PortView.{PortView}
use Rattle.tick_law.specs.Wires.{Wires, own_of}
use Rattle.tick_law.specs.Pass.{port_at}
use Rattle.tick_law.specs.Course.{any_of}
use Rattle.tick_law.specs.Face.{face_differs}

-- one of the ports of actor i has another face than before
abbrev pub changed : Bool → List PortView → List PortView → Wires → ℕ → Bool
changed part old new wires i = any_of (λ q. face_differs part (port_at old q) (port_at new q)) (own_of wires i)

-- port q is one of these, and has another face than before
abbrev pub changed_of : Bool → List PortView → List PortView → List ℕ → ℕ → Bool
changed_of part old new own q = any_of (λ x. (x == q) && face_differs part (port_at old x) (port_at new x)) own
