-- One actor after another makes a whole pass.
use Rattle.std.proofs.Common.{◌≡◌, ℕ, ◌+◌, ◌<◌, ◌≤◌, ◌/◌, List, [], ◌∷◌, length, zero, suc, sym, ◌∙◌, ap, arith, refl}
use Rattle.std.specs.Prelude.{Option, Some, None, Bool, true, false, ◌==◌, ◌||◌, slice_get, slice_set, IsTrue}
use Rattle.std.proofs.lemmas.Bool.Decides.{nat_tests}
use Rattle.port_msg.specs.PortView.{PortView}
use Rattle.tick_law.specs.Machine.{Machine, Outcome}
use Rattle.tick_law.specs.WorldPlaces.{SidePlaces, alls, somes, emptied}
use Rattle.tick_law.specs.Wires.{Wires, own_of, owner_of, Has, Wired}
use Rattle.tick_law.specs.Pass.{Side, gather, map_index, has_edge, step_of, state_after, port_from, port_after, pass, first, everyone}
use Rattle.model_laws.specs.Pass.{scatter, whole_side, act_if, act_at}
use Rattle.model_laws.proofs.OneMoreActor.{gather_waiting, one_more, no_more, length-map_index}
use Rattle.model_laws.proofs.PortsPutBack.{somes-alls, put_back}
use Rattle.model_laws.proofs.OnePortMore.{side_places_is}

first_below : (n k : ℕ) → k < n → first n k ≡ true
first_below zero k h = absurd (omega arith)
first_below (suc n) k h = at (k == n) refl (λ l. first_below n k l)
  where
    at : (b : Bool) → (k == n) ≡ b → (k < n → first n k ≡ true) → ((k == n) || first n k) ≡ true
    at true e rest = rw e refl
    at false e rest = rw e (rest (grind (arith, nat_tests)))

first_waits : (n k : ℕ) → n ≤ k → first n k ≡ false
first_waits zero k h = refl
first_waits (suc n) k h =
    let e : (k == n) ≡ false = grind (arith, nat_tests) in
    rw e (first_waits n k (omega arith))

pub map_index_ext : {A B : Type 0} (f g : ℕ → A → B) (i : ℕ) (xs : List A) → ((k : ℕ) (x : A) → k < i + length xs → f k x ≡ g k x) → map_index f i xs ≡ map_index g i xs
map_index_ext f g i [] h = refl
map_index_ext f g i (x ∷ xs) h =
    let here : f i x ≡ g i x = h i x (omega arith) in
    let rest : map_index f (suc i) xs ≡ map_index g (suc i) xs = map_index_ext f g (suc i) xs (λ k y l. h k y (omega arith)) in
    cc

map_index_id : {A : Type 0} (f : ℕ → A → A) (i : ℕ) (xs : List A) → ((k : ℕ) (x : A) → f k x ≡ x) → map_index f i xs ≡ xs
map_index_id f i [] h = refl
map_index_id f i (x ∷ xs) h =
    let here : f i x ≡ x = h i x in
    let rest : map_index f (suc i) xs ≡ xs = map_index_id f (suc i) xs h in
    cc

pub map_index_back : {A B : Type 0} (f : ℕ → A → B) (i : ℕ) (xs : List A) (k : ℕ) (y : B) → slice_get (map_index f i xs) k ≡ Some y → (x : A) × (slice_get xs k ≡ Some x) × (y ≡ f (i + k) x)
map_index_back f i [] k y e = absurd (cc)
map_index_back f i (x ∷ xs) zero y e = (x, refl, (let same : y ≡ f i x = cc in same) ∙ ap (λ j. f j x) (let z : i ≡ i + 0 = omega arith in z))
map_index_back f i (x ∷ xs) (suc k) y e = let r = map_index_back f (suc i) xs k y e in (r.0, r.1, r.2 ∙ ap (λ j. f j r.0) (let z : suc i + k ≡ i + suc k = omega arith in z))

pub alls_back : {A : Type 0} (xs : List A) (k : ℕ) (y : A) → slice_get (alls xs) k ≡ Some (Some y) → slice_get xs k ≡ Some y
alls_back [] k y e = absurd (cc)
alls_back (x ∷ xs) zero y e = cc
alls_back (x ∷ xs) (suc k) y e = alls_back xs k y e

pub alls_forth : {A : Type 0} (xs : List A) (k : ℕ) (y : A) → slice_get xs k ≡ Some y → slice_get (alls xs) k ≡ Some (Some y)
alls_forth [] k y e = absurd (cc)
alls_forth (x ∷ xs) zero y e = cc
alls_forth (x ∷ xs) (suc k) y e = alls_forth xs k y e

pub alls_set : {A : Type 0} (xs : List A) (k : ℕ) (y : A) → slice_set (alls xs) k (Some y) ≡ alls (slice_set xs k y)
alls_set [] k y = refl
alls_set (x ∷ xs) zero y = refl
alls_set (x ∷ xs) (suc k) y = ap (λ l. Some x ∷ l) (alls_set xs k y)

pub alls_has : {A : Type 0} (xs : List A) (i : ℕ) → i < length xs → (x : A) × (slice_get (alls xs) i ≡ Some (Some x))
alls_has [] i b = absurd (omega arith)
alls_has (x ∷ xs) zero b = (x, refl)
alls_has (x ∷ xs) (suc i) b = alls_has xs i (omega arith)

module _ {S : Type 0} where
  none_kept : (m : Machine S) (w : Wires) (t : ℕ) (ports : List PortView) (q : ℕ) (p : PortView) (o : Option S) → port_from m w (first zero) t ports q p o ≡ p
  none_kept m w t ports q p None = refl
  none_kept m w t ports q p (Some s) = refl

  -- at first nobody has stepped
  pub pass_none : (m : Machine S) (w : Wires) (t : ℕ) (h : Side S) → pass m w (first zero) t h ≡ h
  pass_none m w t h =
      let a : map_index (state_after m w (first zero) t h.ports) 0 h.states ≡ h.states = map_index_id (state_after m w (first zero) t h.ports) 0 h.states (λ k x. refl) in
      let b : map_index (port_after m w (first zero) t h) 0 h.ports ≡ h.ports = map_index_id (port_after m w (first zero) t h) 0 h.ports (λ q p. none_kept m w t h.ports q p (slice_get h.states (owner_of w q))) in
      side_is _ _ _ _ a b
    where
      side_is : (a b : List S) (p q : List PortView) → a ≡ b → p ≡ q → let x : Side S = record { states = a; ports = p } in let y : Side S = record { states = b; ports = q } in x ≡ y
      side_is a b p q e f = cc

  all_ports : (m : Machine S) (w : Wires) (n t : ℕ) (ports : List PortView) (q : ℕ) (p : PortView) (o : Option S) → first n (owner_of w q) ≡ true → port_from m w (first n) t ports q p o ≡ port_from m w everyone t ports q p o
  all_ports m w n t ports q p None e = refl
  all_ports m w n t ports q p (Some s) e = rw e refl

  all_states : (m : Machine S) (w : Wires) (n t : ℕ) (ports : List PortView) (k : ℕ) (x : S) → first n k ≡ true → state_after m w (first n) t ports k x ≡ state_after m w everyone t ports k x
  all_states m w n t ports k x e = rw e refl

  -- at last everyone has
  pub pass_all : (m : Machine S) (w : Wires) (n t : ℕ) (h : Side S) → length h.states ≤ n → ((q : ℕ) → q < length h.ports → owner_of w q < n) → pass m w (first n) t h ≡ pass m w everyone t h
  pass_all m w n t h b owned =
      side_is _ _ _ _
      (map_index_ext (state_after m w (first n) t h.ports) (state_after m w everyone t h.ports) 0 h.states (λ k x l. all_states m w n t h.ports k x (first_below n k (omega arith))))
      (map_index_ext (port_after m w (first n) t h) (port_after m w everyone t h) 0 h.ports (λ q p l. all_ports m w n t h.ports q p (slice_get h.states (owner_of w q)) (first_below n (owner_of w q) (owned q (omega arith)))))
    where
      side_is : (a b : List S) (p q : List PortView) → a ≡ b → p ≡ q → let x : Side S = record { states = a; ports = p } in let y : Side S = record { states = b; ports = q } in x ≡ y
      side_is a b p q e f = cc

  pub state_kept : (m : Machine S) (w : Wires) (stepped : ℕ → Bool) (t : ℕ) (ports : List PortView) (k : ℕ) (x : S) → stepped k ≡ false → state_after m w stepped t ports k x ≡ x
  state_kept m w stepped t ports k x e = rw e refl

  -- an actor that has not stepped yet is as it was
  pub waiting : (m : Machine S) (w : Wires) (t : ℕ) (h : Side S) (i : ℕ) (s : S) → slice_get (alls (pass m w (first i) t h).states) i ≡ Some (Some s) → slice_get h.states i ≡ Some s
  waiting m w t h i s e =
      let back = map_index_back (state_after m w (first i) t h.ports) 0 h.states i s (alls_back (pass m w (first i) t h).states i s e) in
      let z : 0 + i ≡ i = omega arith in
      let same : s ≡ back.0 = back.2 ∙ ap (λ k. state_after m w (first i) t h.ports k back.0) z ∙ state_kept m w (first i) t h.ports i back.0 (first_waits i i (omega arith)) in
      back.1 ∙ ap (λ x. Some x) (sym same)

  -- one actor more in its place is one actor more in the pass
  pub act_more : (m : Machine S) (w : Wires) (t i : ℕ) (h : Side S) (s : S) → Wired w (length h.ports) → slice_get h.states i ≡ Some s →
      (has_edge m t s ≡ true → length (step_of m w t h.ports i s).ports ≡ length (own_of w i)) →
      act_at m (own_of w i) i t (whole_side (pass m w (first i) t h)) (Some (Some s)) ≡ whole_side (pass m w (first (suc i)) t h)
  act_more m w t i h s wired at same = by_edge (has_edge m t s) refl
    where
      by_edge : (b : Bool) → has_edge m t s ≡ b → act_if (has_edge m t s) m (own_of w i) i t (whole_side (pass m w (first i) t h)) s ≡ whole_side (pass m w (first (suc i)) t h)
      by_edge true e =
          let half = pass m w (first i) t h in
          let own = own_of w i in
          let st = step_of m w t h.ports i s in
          let waits = first_waits i i (omega arith) in
          let new : m.step s (gather (somes (alls half.ports)) own) (t / m.period s) ≡ st = ap (λ l. m.step s (gather l own) (t / m.period s)) (somes-alls half.ports) ∙ ap (λ l. m.step s l (t / m.period s)) (gather_waiting m w (first i) t h i wired waits) in
          let within = λ (q : ℕ) (has : Has own q). let l = wired.within i q has in let z : length half.ports ≡ length h.ports = length-map_index (port_after m w (first i) t h) 0 h.ports in let r : q < length half.ports = omega arith in r in
          ap (λ b. act_if b m own i t (whole_side half) s) e
          ∙ ap (λ (x : Outcome S). let y : SidePlaces S = record { actors = slice_set (alls half.states) i (Some x.state); ports = scatter (emptied (alls half.ports) own) own (alls x.ports) } in y) new
          ∙ side_places_is _ _ _ _ (alls_set half.states i st.state) (put_back half.ports own st.ports (sym (same e)) within)
          ∙ ap (λ x. whole_side x) (sym (one_more m w (first i) t h i s wired at e (same e)))
      by_edge false e =
          ap (λ b. act_if b m (own_of w i) i t (whole_side (pass m w (first i) t h)) s) e ∙ ap (λ x. whole_side x) (sym (no_more m w (first i) t h i s at e (first_waits i i (omega arith))))

  pub length_states : (m : Machine S) (w : Wires) (stepped : ℕ → Bool) (t : ℕ) (h : Side S) → length (pass m w stepped t h).states ≡ length h.states
  length_states m w stepped t h = length-map_index (state_after m w stepped t h.ports) 0 h.states

  pub length_ports : (m : Machine S) (w : Wires) (stepped : ℕ → Bool) (t : ℕ) (h : Side S) → length (pass m w stepped t h).ports ≡ length h.ports
  length_ports m w stepped t h = length-map_index (port_after m w stepped t h) 0 h.ports

  -- a call of act goes on by one actor
  pub act_step : (m : Machine S) (w : Wires) (t i : ℕ) (h : Side S) (now new : SidePlaces S) (own : List ℕ) → Wired w (length h.ports) → own ≡ own_of w i → now ≡ whole_side (pass m w (first i) t h) → i < length h.states → new ≡ act_at m own i t now (slice_get now.actors i) →
      ((s : S) → slice_get now.actors i ≡ Some (Some s) → IsTrue (has_edge m t s) → length (m.step s (gather (somes now.ports) own) (t / m.period s)).ports ≡ length own) →
      new ≡ whole_side (pass m w (first (suc i)) t h)
  act_step m w t i h now new own wired owned was below is same =
      let half = pass m w (first i) t h in
      let found = alls_has half.states i (omega (arith, length_states m w (first i) t h)) in
      let s = found.0 in
      let at : slice_get now.actors i ≡ Some (Some s) = ap (λ (x : SidePlaces S). slice_get x.actors i) was ∙ found.1 in
      let ports : gather (somes now.ports) own ≡ gather h.ports (own_of w i) = ap (λ (x : SidePlaces S). gather (somes x.ports) own) was ∙ ap (λ l. gather l own) (somes-alls half.ports) ∙ ap (λ l. gather half.ports l) owned ∙ gather_waiting m w (first i) t h i wired (first_waits i i (omega arith)) in
      let enough = λ (e : has_edge m t s ≡ true). ap (λ l. length (m.step s l (t / m.period s)).ports) (sym ports) ∙ same s at e ∙ ap length owned in
      is ∙ ap (λ l. act_at m l i t now (slice_get now.actors i)) owned ∙ ap (λ (x : SidePlaces S). act_at m (own_of w i) i t x (slice_get x.actors i)) was ∙ ap (act_at m (own_of w i) i t (whole_side half)) found.1 ∙ act_more m w t i h s wired (waiting m w t h i s found.1) enough
