-- Gaps in which nothing changes.
use Rattle.std.specs.Prelude.{◌≡◌, ℕ, ◌<◌, ◌≤◌, List, [], ◌∷◌, length, Option, Bool, false, refl}
use Rattle.std.proofs.Common.{zero, suc, sym, ◌∙◌, ap}
use Rattle.port_msg.specs.PortView.{PortView}
use Rattle.tick_law.specs.Wires.{own_of, owner_of}
use Rattle.tick_law.specs.Pass.{port_at, first}
use Rattle.tick_law.specs.NextTime.{woken}
use Rattle.model_laws.proofs.ActorByActor.{pass_none}
use Rattle.model_laws.proofs.DueByDue.{pass_same}
use Rattle.tick_law.specs.Course.{any_of, Course, after, faced_at, faced}
use Rattle.tick_law.specs.Face.{face_differs}
use Rattle.model_laws.proofs.SideCourse.{IsCourse}
use Rattle.model_laws.proofs.FacesKept.{face_same, face_refl}
use Rattle.model_laws.specs.NextTable.{due_at_time}
use Rattle.model_laws.proofs.DuePassIsWhole.{due_whole}

face_still : (side : Bool) (a : PortView) → face_differs side a a ≡ false
face_still side a = face_same side a a (face_refl side a)

any_none : (test : ℕ → Bool) (qs : List ℕ) → ((q : ℕ) → test q ≡ false) → any_of test qs ≡ false
any_none test [] h = refl
any_none test (q ∷ qs) h = rw (h q) (any_none test qs h)

pub woken_no : (b : Bool) (e : ℕ) (o : Option ℕ) → b ≡ false → woken b e o ≡ o
woken_no b e o f = rw f refl

module _ {S : Type 0} where
  -- where nobody is due the pass does nothing
  pub rests_whole : (c : Course S) (valid : S → Type 0) (end t : ℕ) → IsCourse c valid end → t ≤ end → c.from ≤ t → ((q : ℕ) → q < length (c.before t).ports → owner_of c.wires q < length (c.before t).states) → ((i : ℕ) → i < length (c.before t).states → due_at_time c t i ≡ false) → after c t ≡ c.before t
  rests_whole c valid end t is l from owned rests =
      sym (due_whole c valid end t is l from)
      ∙ pass_same c.machine c.wires (due_at_time c t) (first zero) t (c.before t) (λ k b. rests k b) owned
      ∙ pass_none c.machine c.wires t (c.before t)

  -- a gap in which no port changes
  pub gap_rests : (c : Course S) (t i : ℕ) → (c.before (suc t)).ports ≡ (after c t).ports → faced c i t ≡ false
  gap_rests c t i e = any_none (faced_at c t) (own_of c.wires i) (λ q. ap (λ l. face_differs c.side (port_at (after c t).ports q) (port_at l q)) e ∙ face_still c.side (port_at (after c t).ports q))
