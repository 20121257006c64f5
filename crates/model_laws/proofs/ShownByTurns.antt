-- Faces that one turn after another changes.
use Rattle.std.proofs.Common.{◌≡◌, ℕ, ◌<◌, List, [], ◌∷◌, length, suc, sym, ◌∙◌, ap, subst, arith, refl, inl, inr}
use Rattle.std.specs.Prelude.{Option, Bool, true, false, ◌==◌, ◌&&◌, ◌||◌, slice_get}
use Rattle.std.proofs.lemmas.Bool.{cases_lt, eq-eqb}
use Rattle.std.proofs.Math.Bool.{or-false}
use Rattle.port_msg.specs.PortView.{PortView, port_view}
use Rattle.tick_law.specs.Machine.{Machine}
use Rattle.tick_law.specs.Wires.{Wires, own_of, owner_of, Has, Wired}
use Rattle.tick_law.specs.Pass.{Side, port_at, pass, port_after}
use Rattle.tick_law.specs.Face.{face_differs}
use Rattle.tick_law.specs.NextTime.{woken}
use Rattle.tick_law.specs.Course.{any_of}
use Rattle.model_laws.proofs.OneMoreActor.{is_same, is_other, get-map_index_zero, port_kept}
use Rattle.model_laws.proofs.FacesKept.{face_same, face_refl}
use Rattle.model_laws.specs.Outcome.{firsts}
use Rattle.model_laws.proofs.DueByDue.{firsts_are, firsts_wait, who_ports}
use Rattle.model_laws.specs.NextTable.{IsTable, next_at_place}
use Rattle.model_laws.proofs.WokenByPorts.{any_same, any_has}
use Rattle.model_laws.specs.Changed.{changed, changed_of}
use Rattle.model_laws.proofs.WokenByChanges.{any_false, hit}

or_mixed : (a b c d : Bool) → ((a || b) || (c || d)) ≡ ((a || c) || (b || d))
or_mixed true b c d = refl
or_mixed false true true d = refl
or_mixed false true false d = refl
or_mixed false false c d = refl

pub any_either : (f g : ℕ → Bool) (qs : List ℕ) → any_of (λ q. f q || g q) qs ≡ (any_of f qs || any_of g qs)
any_either f g [] = refl
any_either f g (q ∷ qs) = ap (λ b. (f q || g q) || b) (any_either f g qs) ∙ or_mixed (f q) (g q) (any_of f qs) (any_of g qs)

pub woken_twice : (a b : Bool) (e : ℕ) (o : Option ℕ) → woken b e (woken a e o) ≡ woken (a || b) e o
woken_twice true true e o = refl
woken_twice true false e o = refl
woken_twice false true e o = refl
woken_twice false false e o = refl

-- what is tested of one that is in the list
pub hit_in : (test : ℕ → Bool) (own : List ℕ) (q : ℕ) → Has own q → hit test own q ≡ test q
hit_in test own q has = by_test (test q) refl
  where
    by_test : (b : Bool) → test q ≡ b → hit test own q ≡ test q
    by_test true e = any_has (λ x. (x == q) && test x) own q has (ap (λ b. b && test q) (eq-eqb q q refl) ∙ e) ∙ sym e
    by_test false e = any_same (λ x. (x == q) && test x) (λ x. false) own (λ x here. none x (x == q) refl) ∙ any_false own ∙ sym e
      where
        none : (x : ℕ) (y : Bool) → (x == q) ≡ y → ((x == q) && test x) ≡ false
        none x true f = ap (λ b. b && test x) f ∙ ap test (is_same x q f) ∙ e
        none x false f = ap (λ b. b && test x) f

-- one that is not in the list
pub hit_out : (test : ℕ → Bool) (own : List ℕ) (q : ℕ) → (Has own q → ⊥) → hit test own q ≡ false
hit_out test own q out = any_same (λ x. (x == q) && test x) (λ x. false) own (λ x here. none x here (x == q) refl) ∙ any_false own
  where
    none : (x : ℕ) → Has own x → (y : Bool) → (x == q) ≡ y → ((x == q) && test x) ≡ false
    none x here true f = absurd (out (subst (λ k. Has own k) (is_same x q f) here))
    none x here false f = ap (λ b. b && test x) f

firsts_else : (stepped : ℕ → Bool) (i k : ℕ) → (k ≡ i → ⊥) → firsts stepped (suc i) k ≡ firsts stepped i k
firsts_else stepped i k apart = elim (cases_lt k i) [
  | inl l ↦ firsts_are stepped (suc i) k (omega (arith, l)) ∙ sym (firsts_are stepped i k l)
  | inr l ↦ firsts_wait stepped (suc i) k (omega (arith, l, apart)) ∙ sym (firsts_wait stepped i k (omega (arith, l)))
]

module _ {S : Type 0} where
  port_is : (m : Machine S) (w : Wires) (stepped : ℕ → Bool) (t : ℕ) (h : Side S) (q : ℕ) → q < length h.ports → port_at (pass m w stepped t h).ports q ≡ port_after m w stepped t h q (port_at h.ports q)
  port_is m w stepped t h q b = get-map_index_zero (port_after m w stepped t h) h.ports q (port_view [] [] 0) (port_view [] [] 0) b

  -- a face that changed over the turns of the first so many and one more changed over one of the two
  face_then : (m : Machine S) (w : Wires) (stepped : ℕ → Bool) (t i : ℕ) (h : Side S) (part : Bool) (q : ℕ) → Wired w (length h.ports) → q < length h.ports →
      (face_differs part (port_at h.ports q) (port_at (pass m w (firsts stepped i) t h).ports q) || changed_of part (pass m w (firsts stepped i) t h).ports (pass m w (firsts stepped (suc i)) t h).ports (own_of w i) q)
      ≡ face_differs part (port_at h.ports q) (port_at (pass m w (firsts stepped (suc i)) t h).ports q)
  face_then m w stepped t i h part q wired b = by_owner (owner_of w q == i) refl
    where
      before : List PortView
      before = (pass m w (firsts stepped i) t h).ports

      behind : List PortView
      behind = (pass m w (firsts stepped (suc i)) t h).ports

      by_owner : (y : Bool) → (owner_of w q == i) ≡ y → (face_differs part (port_at h.ports q) (port_at before q) || changed_of part before behind (own_of w i) q) ≡ face_differs part (port_at h.ports q) (port_at behind q)
      by_owner true f =
          let g : owner_of w q ≡ i = is_same (owner_of w q) i f in
          let has : Has (own_of w i) q = subst (λ k. Has (own_of w k) q) g (wired.found q b) in
          let waits : firsts stepped i (owner_of w q) ≡ false = ap (firsts stepped i) g ∙ firsts_wait stepped i i (omega arith) in
          let still : port_at before q ≡ port_at h.ports q = port_is m w (firsts stepped i) t h q b ∙ port_kept m w (firsts stepped i) t h.ports q (port_at h.ports q) (slice_get h.states (owner_of w q)) waits in
          ap (λ p. face_differs part (port_at h.ports q) p || changed_of part before behind (own_of w i) q) still
          ∙ ap (λ x. x || changed_of part before behind (own_of w i) q) (face_same part (port_at h.ports q) (port_at h.ports q) (face_refl part (port_at h.ports q)))
          ∙ hit_in (λ x. face_differs part (port_at before x) (port_at behind x)) (own_of w i) q has
          ∙ ap (λ p. face_differs part p (port_at behind q)) still
      by_owner false f =
          let apart = is_other (owner_of w q) i f in
          let out = λ (has : Has (own_of w i) q). apart (wired.listed i q has) in
          let same : port_at behind q ≡ port_at before q = port_is m w (firsts stepped (suc i)) t h q b ∙ who_ports m w (firsts stepped (suc i)) (firsts stepped i) t h.ports q (port_at h.ports q) (slice_get h.states (owner_of w q)) (firsts_else stepped i (owner_of w q) apart) ∙ sym (port_is m w (firsts stepped i) t h q b) in
          ap (λ x. face_differs part (port_at h.ports q) (port_at before q) || x) (hit_out (λ x. face_differs part (port_at before x) (port_at behind x)) (own_of w i) q out)
          ∙ or-false (face_differs part (port_at h.ports q) (port_at before q))
          ∙ ap (λ p. face_differs part (port_at h.ports q) p) (sym same)

  -- those whom the first so many and one more woke
  pub woken_then : (m : Machine S) (w others : Wires) (stepped : ℕ → Bool) (t i : ℕ) (h : Side S) (part : Bool) (a b : List PortView) (edge : ℕ → ℕ) (start now new : List (Option ℕ)) (count : ℕ) → Wired w (length h.ports) → Wired others (length h.ports) → a ≡ (pass m w (firsts stepped i) t h).ports → b ≡ (pass m w (firsts stepped (suc i)) t h).ports →
      IsTable now (λ j. woken (changed part h.ports a others j) (edge j) (next_at_place start j)) count →
      IsTable new (λ j. woken (any_of (changed_of part a b (own_of w i)) (own_of others j)) (edge j) (next_at_place now j)) count →
      IsTable new (λ j. woken (changed part h.ports b others j) (edge j) (next_at_place start j)) count
  woken_then m w others stepped t i h part a b edge start now new count wired wired_others e f was is = record {
    long = is.long;
    at = λ j l.
        is.at j l
        ∙ ap (λ o. woken (any_of (changed_of part a b (own_of w i)) (own_of others j)) (edge j) o) (was.at j l)
        ∙ woken_twice (changed part h.ports a others j) (any_of (changed_of part a b (own_of w i)) (own_of others j)) (edge j) (next_at_place start j)
        ∙ ap (λ x. woken x (edge j) (next_at_place start j))
        (sym (any_either (λ q. face_differs part (port_at h.ports q) (port_at a q)) (changed_of part a b (own_of w i)) (own_of others j))
        ∙ any_same (λ q. face_differs part (port_at h.ports q) (port_at a q) || changed_of part a b (own_of w i) q) (λ q. face_differs part (port_at h.ports q) (port_at b q)) (own_of others j)
        (λ q has. here q (wired_others.within j q has)));
  }
    where
      here : (q : ℕ) → q < length h.ports → (face_differs part (port_at h.ports q) (port_at a q) || changed_of part a b (own_of w i) q) ≡ face_differs part (port_at h.ports q) (port_at b q)
      here q l =
          ap (λ x. face_differs part (port_at h.ports q) (port_at x q) || changed_of part x b (own_of w i) q) e
          ∙ ap (λ y. face_differs part (port_at h.ports q) (port_at (pass m w (firsts stepped i) t h).ports q) || changed_of part (pass m w (firsts stepped i) t h).ports y (own_of w i) q) f
          ∙ face_then m w stepped t i h part q wired l
          ∙ ap (λ y. face_differs part (port_at h.ports q) (port_at y q)) (sym f)

-- at first nobody is woken
pub woken_none : (part : Bool) (ports : List PortView) (others : Wires) (edge : ℕ → ℕ) (start : List (Option ℕ)) (count : ℕ) → length start ≡ count → IsTable start (λ j. woken (changed part ports ports others j) (edge j) (next_at_place start j)) count
woken_none part ports others edge start count e = record {
  long = e;
  at = λ j l. sym (ap (λ x. woken x (edge j) (next_at_place start j)) (any_same (λ q. face_differs part (port_at ports q) (port_at ports q)) (λ q. false) (own_of others j) (λ q has. face_same part (port_at ports q) (port_at ports q) (face_refl part (port_at ports q))) ∙ any_false (own_of others j)));
}
