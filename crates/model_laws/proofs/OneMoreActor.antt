-- One more actor of a pass.
use Rattle.std.specs.Prelude.{◌≡◌, ◌≢◌, ℕ, ◌+◌, ◌<◌, ◌==◌, List, [], ◌∷◌, length, Option, Some, None, Bool, true, false, slice_get, slice_set, refl}
use Rattle.std.proofs.Common.{zero, suc, sym, ◌∙◌, ap, subst, arith, get_or}
use Rattle.std.proofs.lemmas.Bool.Decides.{nat_tests}
use Rattle.std.proofs.lemmas.List.{same_lists, length-set, get_or-set_same, get_or-set_other}
use Rattle.std.proofs.lemmas.Option.{get_or_from_slice_get}
use Rattle.port_msg.specs.PortView.{PortView, port_view}
use Rattle.tick_law.specs.Machine.{Machine}
use Rattle.tick_law.specs.Wires.{Wires, own_of, owner_of}
use Rattle.tick_law.specs.Pass.{Side, port_at, gather, next_place, place, map_index, has_edge, step_of, state_after, port_from, port_after, also, pass}
use Rattle.model_laws.specs.Pass.{scatter}
use Rattle.tick_law.specs.Wires.{Has, Wired}

pub length-map_index : {A B : Type 0} (f : ℕ → A → B) (i : ℕ) (xs : List A) → length (map_index f i xs) ≡ length xs
length-map_index f i [] = refl
length-map_index f i (x ∷ xs) = ap suc (length-map_index f (suc i) xs)

get-map_index : {A B : Type 0} (f : ℕ → A → B) (i : ℕ) (xs : List A) (k : ℕ) (d : A) (e : B) → k < length xs → get_or (map_index f i xs) k e ≡ f (i + k) (get_or xs k d)
get-map_index f i [] k d e h = absurd (omega arith)
get-map_index f i (x ∷ xs) zero d e h = ap (λ j. f j x) (let z : i ≡ i + 0 = omega arith in z)
get-map_index f i (x ∷ xs) (suc k) d e h = get-map_index f (suc i) xs k d e (omega arith) ∙ ap (λ j. f j (get_or xs k d)) (let z : suc i + k ≡ i + suc k = omega arith in z)

-- the same from the first place on
pub get-map_index_zero : {A B : Type 0} (f : ℕ → A → B) (xs : List A) (k : ℕ) (d : A) (e : B) → k < length xs → get_or (map_index f 0 xs) k e ≡ f k (get_or xs k d)
get-map_index_zero f xs k d e h = get-map_index f 0 xs k d e h ∙ ap (λ j. f j (get_or xs k d)) (let z : 0 + k ≡ k = omega arith in z)

pub length-scatter : {A : Type 0} (xs : List A) (qs : List ℕ) (ys : List A) → length (scatter xs qs ys) ≡ length xs
length-scatter xs [] ys = refl
length-scatter xs (q ∷ qs) [] = refl
length-scatter xs (q ∷ qs) (y ∷ ys) = length-set (scatter xs qs ys) q y ∙ length-scatter xs qs ys

pub is_same : (a b : ℕ) → (a == b) ≡ true → a ≡ b
is_same a b e = grind (arith, nat_tests)

pub is_other : (a b : ℕ) → (a == b) ≡ false → a ≡ b → ⊥
is_other a b e f = grind (arith, nat_tests)

pub has_rest : (q : ℕ) (qs : List ℕ) (k : ℕ) → Has (q ∷ qs) k → (q ≡ k → ⊥) → Has qs k
has_rest q qs k (zero, b, e) n = absurd (n e)
has_rest q qs k (suc j, b, e) n = (j, omega arith, e)

-- what is not in the list stays
pub scatter_other : {A : Type 0} (xs : List A) (qs : List ℕ) (ys : List A) (k : ℕ) (d : A) → (Has qs k → ⊥) → get_or (scatter xs qs ys) k d ≡ get_or xs k d
scatter_other xs [] ys k d n = refl
scatter_other xs (q ∷ qs) [] k d n = refl
scatter_other xs (q ∷ qs) (y ∷ ys) k d n =
    let ne : k ≢ q = λ e. n (0, omega arith, sym e) in
    get_or-set_other (scatter xs qs ys) q k y d ne ∙ scatter_other xs qs ys k d (λ (j, b, e). n (suc j, omega arith, e))

-- what is in the list is the one at that place
pub scatter_at : {A : Type 0} (xs : List A) (qs : List ℕ) (ys : List A) (k : ℕ) (d : A) → Has qs k → length qs ≡ length ys → k < length xs → get_or (scatter xs qs ys) k d ≡ get_or ys (place k qs) d
scatter_at xs [] ys k d h e b = absurd (omega (arith, h.1))
scatter_at xs (q ∷ qs) [] k d h e b = absurd (omega arith)
scatter_at xs (q ∷ qs) (y ∷ ys) k d h e b =
    at_first (q == k) refl (λ r. scatter_at xs qs ys k d r (omega arith) b)
  where
    at_first : (x : Bool) → (q == k) ≡ x → (Has qs k → get_or (scatter xs qs ys) k d ≡ get_or ys (place k qs) d) → get_or (slice_set (scatter xs qs ys) q y) k d ≡ get_or (y ∷ ys) (next_place (q == k) (place k qs)) d
    at_first true x rest =
        let same : q ≡ k = is_same q k x in
        let l : q < length (scatter xs qs ys) = omega (arith, length-scatter xs qs ys) in
        rw x (subst (λ j. get_or (slice_set (scatter xs qs ys) q y) j d ≡ y) same (get_or-set_same (scatter xs qs ys) q y d l))
    at_first false x rest = rw x (get_or-set_other (scatter xs qs ys) q k y d (λ f. is_other q k x (sym f)) ∙ rest (has_rest q qs k h (is_other q k x)))

-- another default, within the list
pub get_or_swap : {A : Type 0} (xs : List A) (k : ℕ) (d e : A) → k < length xs → get_or xs k d ≡ get_or xs k e
get_or_swap [] k d e h = absurd (omega arith)
get_or_swap (x ∷ xs) zero d e h = refl
get_or_swap (x ∷ xs) (suc k) d e h = get_or_swap xs k d e (omega arith)

pub place_below : (q : ℕ) (qs : List ℕ) → Has qs q → place q qs < length qs
place_below q [] h = absurd (omega (arith, h.1))
place_below q (x ∷ xs) h = at_first (x == q) refl (λ r. place_below q xs r)
  where
    at_first : (b : Bool) → (x == q) ≡ b → (Has xs q → place q xs < length xs) → next_place (x == q) (place q xs) < length (x ∷ xs)
    at_first true e rest = rw e (omega arith)
    at_first false e rest = rw e (let r = rest (has_rest x xs q h (is_other x q e)) in omega (arith, r))

pub gather_same : (a b : List PortView) (qs : List ℕ) → ((q : ℕ) → Has qs q → port_at a q ≡ port_at b q) → gather a qs ≡ gather b qs
gather_same a b [] h = refl
gather_same a b (q ∷ qs) h =
    let first : port_at a q ≡ port_at b q = h q (0, omega arith, refl) in
    let rest : gather a qs ≡ gather b qs = gather_same a b qs (λ k (j, l, e). h k (suc j, omega arith, e)) in
    cc

module _ {S : Type 0} where
  -- a port whose owner is not named stays
  pub port_kept : (m : Machine S) (w : Wires) (stepped : ℕ → Bool) (t : ℕ) (ports : List PortView) (q : ℕ) (p : PortView) (o : Option S) → stepped (owner_of w q) ≡ false → port_from m w stepped t ports q p o ≡ p
  port_kept m w stepped t ports q p None e = refl
  port_kept m w stepped t ports q p (Some s) e = rw e refl

  -- an actor that has not stepped yet finds its ports as they were
  pub gather_waiting : (m : Machine S) (w : Wires) (stepped : ℕ → Bool) (t : ℕ) (h : Side S) (i : ℕ) → Wired w (length h.ports) → stepped i ≡ false → gather (pass m w stepped t h).ports (own_of w i) ≡ gather h.ports (own_of w i)
  gather_waiting m w stepped t h i wired e =
      gather_same (pass m w stepped t h).ports h.ports (own_of w i)
      (λ q has. get-map_index_zero (port_after m w stepped t h) h.ports q (port_view [] [] 0) (port_view [] [] 0) (wired.within i q has) ∙ port_kept m w stepped t h.ports q (port_at h.ports q) (slice_get h.states (owner_of w q)) (ap stepped (wired.listed i q has) ∙ e))

  state_acts : (m : Machine S) (w : Wires) (stepped : ℕ → Bool) (t : ℕ) (ports : List PortView) (i : ℕ) (s : S) → has_edge m t s ≡ true → (k : ℕ) (x : S) → (k == i) ≡ true → k ≡ i → x ≡ s → state_after m w (also stepped i) t ports k x ≡ (step_of m w t ports i s).state
  state_acts m w stepped t ports i s edge k x e f g = rw (e, g, edge, f) refl

  state_waits : (m : Machine S) (w : Wires) (stepped : ℕ → Bool) (t : ℕ) (ports : List PortView) (i k : ℕ) (x : S) → (k == i) ≡ false → state_after m w (also stepped i) t ports k x ≡ state_after m w stepped t ports k x
  state_waits m w stepped t ports i k x e = rw e refl

  states_more : (m : Machine S) (w : Wires) (stepped : ℕ → Bool) (t : ℕ) (ports : List PortView) (states : List S) (i : ℕ) (s : S) → slice_get states i ≡ Some s → has_edge m t s ≡ true → map_index (state_after m w (also stepped i) t ports) 0 states ≡ slice_set (map_index (state_after m w stepped t ports) 0 states) i (step_of m w t ports i s).state
  states_more m w stepped t ports states i s at edge =
      same_lists (map_index (state_after m w (also stepped i) t ports) 0 states) (slice_set (map_index (state_after m w stepped t ports) 0 states) i (step_of m w t ports i s).state)
      (length-map_index _ 0 states ∙ sym (length-map_index (state_after m w stepped t ports) 0 states) ∙ sym (length-set (map_index (state_after m w stepped t ports) 0 states) i (step_of m w t ports i s).state))
      (λ k d h. let b : k < length states = omega (arith, h, length-map_index (state_after m w (also stepped i) t ports) 0 states) in get-map_index_zero (state_after m w (also stepped i) t ports) states k d d b ∙ here k d b (k == i) refl)
    where
      here : (k : ℕ) (d : S) → k < length states → (b : Bool) → (k == i) ≡ b → state_after m w (also stepped i) t ports k (get_or states k d) ≡ get_or (slice_set (map_index (state_after m w stepped t ports) 0 states) i (step_of m w t ports i s).state) k d
      here k d h true e =
          let f = is_same k i e in
          let l : i < length (map_index (state_after m w stepped t ports) 0 states) = omega (arith, length-map_index (state_after m w stepped t ports) 0 states) in
          state_acts m w stepped t ports i s edge k (get_or states k d) e f (ap (λ j. get_or states j d) f ∙ get_or_from_slice_get states i s d at) ∙ subst (λ j. (step_of m w t ports i s).state ≡ get_or (slice_set (map_index (state_after m w stepped t ports) 0 states) i (step_of m w t ports i s).state) j d) (sym f) (sym (get_or-set_same (map_index (state_after m w stepped t ports) 0 states) i (step_of m w t ports i s).state d l))
      here k d h false e = state_waits m w stepped t ports i k (get_or states k d) e ∙ sym (get_or-set_other (map_index (state_after m w stepped t ports) 0 states) i k (step_of m w t ports i s).state d (is_other k i e) ∙ get-map_index_zero (state_after m w stepped t ports) states k d d h)

  port_acts : (m : Machine S) (w : Wires) (stepped : ℕ → Bool) (t : ℕ) (ports : List PortView) (i : ℕ) (s : S) → has_edge m t s ≡ true → (q : ℕ) (p : PortView) (o : Option S) → (owner_of w q == i) ≡ true → owner_of w q ≡ i → o ≡ Some s → port_from m w (also stepped i) t ports q p o ≡ get_or (step_of m w t ports i s).ports (place q (own_of w i)) p
  port_acts m w stepped t ports i s edge q p o e f g = rw (g, e, edge, f) refl

  port_waits : (m : Machine S) (w : Wires) (stepped : ℕ → Bool) (t : ℕ) (ports : List PortView) (i q : ℕ) (p : PortView) (o : Option S) → (owner_of w q == i) ≡ false → port_from m w (also stepped i) t ports q p o ≡ port_from m w stepped t ports q p o
  port_waits m w stepped t ports i q p None e = refl
  port_waits m w stepped t ports i q p (Some x) e = rw e refl

  ports_more : (m : Machine S) (w : Wires) (stepped : ℕ → Bool) (t : ℕ) (h : Side S) (i : ℕ) (s : S) → Wired w (length h.ports) → slice_get h.states i ≡ Some s → has_edge m t s ≡ true → length (step_of m w t h.ports i s).ports ≡ length (own_of w i) → map_index (port_after m w (also stepped i) t h) 0 h.ports ≡ scatter (map_index (port_after m w stepped t h) 0 h.ports) (own_of w i) (step_of m w t h.ports i s).ports
  ports_more m w stepped t h i s wired at edge same =
      same_lists (map_index (port_after m w (also stepped i) t h) 0 h.ports) (scatter (map_index (port_after m w stepped t h) 0 h.ports) (own_of w i) (step_of m w t h.ports i s).ports)
      (length-map_index _ 0 h.ports ∙ sym (length-map_index (port_after m w stepped t h) 0 h.ports) ∙ sym (length-scatter (map_index (port_after m w stepped t h) 0 h.ports) (own_of w i) (step_of m w t h.ports i s).ports))
      (λ q d l. let b : q < length h.ports = omega (arith, l, length-map_index (port_after m w (also stepped i) t h) 0 h.ports) in get-map_index_zero (port_after m w (also stepped i) t h) h.ports q d d b ∙ here q d b (owner_of w q == i) refl)
    where
      here : (q : ℕ) (d : PortView) → q < length h.ports → (b : Bool) → (owner_of w q == i) ≡ b → port_after m w (also stepped i) t h q (get_or h.ports q d) ≡ get_or (scatter (map_index (port_after m w stepped t h) 0 h.ports) (own_of w i) (step_of m w t h.ports i s).ports) q d
      here q d b true e =
          let f = is_same (owner_of w q) i e in
          let has : Has (own_of w i) q = subst (λ j. Has (own_of w j) q) f (wired.found q b) in
          let l : q < length (map_index (port_after m w stepped t h) 0 h.ports) = omega (arith, length-map_index (port_after m w stepped t h) 0 h.ports) in
          let g : slice_get h.states (owner_of w q) ≡ Some s = ap (λ j. slice_get h.states j) f ∙ at in
          port_acts m w stepped t h.ports i s edge q (get_or h.ports q d) (slice_get h.states (owner_of w q)) e f g ∙ get_or_swap (step_of m w t h.ports i s).ports (place q (own_of w i)) (get_or h.ports q d) d (let pb = place_below q (own_of w i) has in omega (arith, pb, same)) ∙ sym (scatter_at (map_index (port_after m w stepped t h) 0 h.ports) (own_of w i) (step_of m w t h.ports i s).ports q d has (sym same) l)
      here q d b false e =
          port_waits m w stepped t h.ports i q (get_or h.ports q d) (slice_get h.states (owner_of w q)) e ∙ sym (scatter_other (map_index (port_after m w stepped t h) 0 h.ports) (own_of w i) (step_of m w t h.ports i s).ports q d (λ has. is_other (owner_of w q) i e (wired.listed i q has)) ∙ get-map_index_zero (port_after m w stepped t h) h.ports q d d b)

  side_is : (a b : List S) (p q : List PortView) → a ≡ b → p ≡ q → let x : Side S = record { states = a; ports = p } in let y : Side S = record { states = b; ports = q } in x ≡ y
  side_is a b p q e f = cc

  -- one more actor steps: its state and its ports are put into their places
  pub one_more : (m : Machine S) (w : Wires) (stepped : ℕ → Bool) (t : ℕ) (h : Side S) (i : ℕ) (s : S) → Wired w (length h.ports) → slice_get h.states i ≡ Some s → has_edge m t s ≡ true → length (step_of m w t h.ports i s).ports ≡ length (own_of w i) → pass m w (also stepped i) t h ≡ record { states = slice_set (pass m w stepped t h).states i (step_of m w t h.ports i s).state; ports = scatter (pass m w stepped t h).ports (own_of w i) (step_of m w t h.ports i s).ports }
  one_more m w stepped t h i s wired at edge same = side_is _ _ _ _ (states_more m w stepped t h.ports h.states i s at edge) (ports_more m w stepped t h i s wired at edge same)

  state_rests : (m : Machine S) (w : Wires) (stepped : ℕ → Bool) (t : ℕ) (ports : List PortView) (i : ℕ) (s : S) → has_edge m t s ≡ false → stepped i ≡ false → (k : ℕ) (x : S) → (k == i) ≡ true → k ≡ i → x ≡ s → state_after m w (also stepped i) t ports k x ≡ state_after m w stepped t ports k x
  state_rests m w stepped t ports i s edge waits k x e f g = rw (e, g, edge, f, waits) refl

  port_rests : (m : Machine S) (w : Wires) (stepped : ℕ → Bool) (t : ℕ) (ports : List PortView) (i : ℕ) (s : S) → has_edge m t s ≡ false → stepped i ≡ false → (q : ℕ) (p : PortView) (o : Option S) → (owner_of w q == i) ≡ true → owner_of w q ≡ i → o ≡ Some s → port_from m w (also stepped i) t ports q p o ≡ port_from m w stepped t ports q p o
  port_rests m w stepped t ports i s edge waits q p o e f g = rw (g, e, edge, f, waits) refl

  -- an actor with no edge changes nothing
  pub no_more : (m : Machine S) (w : Wires) (stepped : ℕ → Bool) (t : ℕ) (h : Side S) (i : ℕ) (s : S) → slice_get h.states i ≡ Some s → has_edge m t s ≡ false → stepped i ≡ false → pass m w (also stepped i) t h ≡ pass m w stepped t h
  no_more m w stepped t h i s at edge waits =
      side_is _ _ _ _
      (same_lists (map_index (state_after m w (also stepped i) t h.ports) 0 h.states) (map_index (state_after m w stepped t h.ports) 0 h.states) (length-map_index _ 0 h.states ∙ sym (length-map_index (state_after m w stepped t h.ports) 0 h.states))
      (λ k d l. let b : k < length h.states = omega (arith, l, length-map_index (state_after m w (also stepped i) t h.ports) 0 h.states) in get-map_index_zero (state_after m w (also stepped i) t h.ports) h.states k d d b ∙ state k d (k == i) refl ∙ sym (get-map_index_zero (state_after m w stepped t h.ports) h.states k d d b)))
      (same_lists (map_index (port_after m w (also stepped i) t h) 0 h.ports) (map_index (port_after m w stepped t h) 0 h.ports) (length-map_index _ 0 h.ports ∙ sym (length-map_index (port_after m w stepped t h) 0 h.ports))
      (λ q d l. let b : q < length h.ports = omega (arith, l, length-map_index (port_after m w (also stepped i) t h) 0 h.ports) in get-map_index_zero (port_after m w (also stepped i) t h) h.ports q d d b ∙ port q d (owner_of w q == i) refl ∙ sym (get-map_index_zero (port_after m w stepped t h) h.ports q d d b)))
    where
      state : (k : ℕ) (d : S) (b : Bool) → (k == i) ≡ b → state_after m w (also stepped i) t h.ports k (get_or h.states k d) ≡ state_after m w stepped t h.ports k (get_or h.states k d)
      state k d true e = let f = is_same k i e in state_rests m w stepped t h.ports i s edge waits k (get_or h.states k d) e f (ap (λ j. get_or h.states j d) f ∙ get_or_from_slice_get h.states i s d at)
      state k d false e = state_waits m w stepped t h.ports i k (get_or h.states k d) e

      port : (q : ℕ) (d : PortView) (b : Bool) → (owner_of w q == i) ≡ b → port_after m w (also stepped i) t h q (get_or h.ports q d) ≡ port_after m w stepped t h q (get_or h.ports q d)
      port q d true e = let f = is_same (owner_of w q) i e in port_rests m w stepped t h.ports i s edge waits q (get_or h.ports q d) (slice_get h.states (owner_of w q)) e f (ap (λ j. slice_get h.states j) f ∙ at)
      port q d false e = port_waits m w stepped t h.ports i q (get_or h.ports q d) (slice_get h.states (owner_of w q)) e
