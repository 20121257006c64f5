-- An actor that makes no step, or one that changes nothing, stays as it is, and so do its ports.
use Rattle.std.specs.Prelude.{◌≡◌, ℕ, ◌+◌, ◌<◌, List, [], ◌∷◌, length, Some, Bool, true, false, slice_get, refl}
use Rattle.std.proofs.Common.{zero, suc, sym, ◌∙◌, ap, subst, arith}
use Rattle.port_msg.specs.PortView.{PortView, port_view}
use Rattle.tick_law.specs.Machine.{Machine}
use Rattle.tick_law.specs.Face.{SameFaces}
use Rattle.tick_law.specs.Wires.{Wires, own_of, owner_of, Has, Wired}
use Rattle.tick_law.specs.Pass.{Side, port_at, gather, map_index, has_edge, step_of, state_if, state_after, port_after, pass, everyone, first}
use Rattle.model_laws.proofs.OneMoreActor.{gather_same, get-map_index_zero, port_kept}
use Rattle.model_laws.proofs.SleepersChangeNothing.{Still, sleeping_port_of}
use Rattle.tick_law.specs.Course.{any_of, Course, after, faced_at}
use Rattle.model_laws.proofs.SideCourse.{IsCourse}
use Rattle.model_laws.proofs.FacesKept.{or_left, or_right, face_kept}

pub get_map_some : {A B : Type 0} (f : ℕ → A → B) (i : ℕ) (xs : List A) (k : ℕ) (x : A) → slice_get xs k ≡ Some x → slice_get (map_index f i xs) k ≡ Some (f (i + k) x)
get_map_some f i [] k x e = absurd (cc)
get_map_some f i (y ∷ ys) zero x e = let same : y ≡ x = cc in ap (λ z. Some (f i z)) same ∙ ap (λ j. Some (f j x)) (let z : i ≡ i + 0 = omega arith in z)
get_map_some f i (y ∷ ys) (suc k) x e = get_map_some f (suc i) ys k x e ∙ ap (λ j. Some (f j x)) (let z : suc i + k ≡ i + suc k = omega arith in z)

module _ {S : Type 0} where
  -- the state after a pass
  pub state_then : (m : Machine S) (w : Wires) (t : ℕ) (h : Side S) (i : ℕ) (s : S) → slice_get h.states i ≡ Some s → slice_get (pass m w everyone t h).states i ≡ Some (state_if (has_edge m t s) (step_of m w t h.ports i s).state s)
  state_then m w t h i s e = get_map_some (state_after m w everyone t h.ports) 0 h.states i s e ∙ ap (λ j. Some (state_after m w everyone t h.ports j s)) (let z : 0 + i ≡ i = omega arith in z)

  kept_if : (m : Machine S) (w : Wires) (t : ℕ) (ports : List PortView) (i : ℕ) (s : S) (b : Bool) → (b ≡ true → Still m w t ports i s) → state_if b (step_of m w t ports i s).state s ≡ s
  kept_if m w t ports i s true h = (h refl).state
  kept_if m w t ports i s false h = refl

  -- no step, or a still one
  pub state_rests : (m : Machine S) (w : Wires) (t : ℕ) (h : Side S) (i : ℕ) (s : S) → slice_get h.states i ≡ Some s → (has_edge m t s ≡ true → Still m w t h.ports i s) → slice_get (pass m w everyone t h).states i ≡ Some s
  state_rests m w t h i s e still = state_then m w t h i s e ∙ ap (λ x. Some x) (kept_if m w t h.ports i s (has_edge m t s) still)

  pub ports_rest : (m : Machine S) (w : Wires) (t : ℕ) (h : Side S) (i : ℕ) (s : S) → Wired w (length h.ports) → slice_get h.states i ≡ Some s → (has_edge m t s ≡ true → Still m w t h.ports i s) → gather (pass m w everyone t h).ports (own_of w i) ≡ gather h.ports (own_of w i)
  ports_rest m w t h i s wired e still =
      gather_same (pass m w everyone t h).ports h.ports (own_of w i)
      (λ q has.
      let owner : owner_of w q ≡ i = wired.listed i q has in
      let own : Has (own_of w (owner_of w q)) q = subst (λ j. Has (own_of w j) q) (sym owner) has in
      let o = slice_get h.states (owner_of w q) in
      let is : o ≡ Some s = ap (λ j. slice_get h.states j) owner ∙ e in
      get-map_index_zero (port_after m w everyone t h) h.ports q (port_view [] [] 0) (port_view [] [] 0) (wired.within i q has)
      ∙ sym (sleeping_port_of m w (first zero) t h.ports q (port_at h.ports q) o own refl
      (λ x at no edge. let same : x ≡ s = (let f : Some x ≡ Some s = sym at ∙ is in cc) in subst (λ j. Still m w t h.ports j x) (sym owner) (subst (λ y. Still m w t h.ports i y) (sym same) (still (subst (λ y. has_edge m t y ≡ true) same edge)))))
      ∙ port_kept m w (first zero) t h.ports q (port_at h.ports q) o refl)

  -- no face was changed in a gap
  pub gap_faces : (c : Course S) (valid : S → Type 0) (end t : ℕ) (qs : List ℕ) → IsCourse c valid end → t < end → ((q : ℕ) → Has qs q → q < length (c.before t).ports) → any_of (faced_at c t) qs ≡ false → SameFaces c.side (gather (after c t).ports qs) (gather (c.before (suc t)).ports qs)
  gap_faces c valid end t [] is l within e = tt
  gap_faces c valid end t (q ∷ qs) is l within e = (
    face_kept c.side (port_at (after c t).ports q) (port_at (c.before (suc t)).ports q) (is.gaps t q l (within q (0, omega arith, refl))) (or_left _ _ e),
    gap_faces c valid end t qs is l (λ k (j, b, f). within k (suc j, omega arith, f)) (or_right _ _ e),
  )
