-- One port more is taken out, or put back.
use Rattle.std.proofs.Common.{inl, inr, ◌≡◌, ◌≢◌, ℕ, ◌+◌, ◌<◌, ◌/◌, List, [], ◌∷◌, ◌++◌, length, take, drop, get_or, zero, suc, sym, ◌∙◌, ap, subst, arith, refl}
use Rattle.std.specs.Prelude.{Option, Some, None, true, false, ◌⊎◌, slice_get, slice_set}
use Rattle.std.proofs.lemmas.List.{take_more, at_drop_more, map-append, length-set, length-take}
use Rattle.std.proofs.lemmas.Option.{slice_get-get_or}
use Rattle.port_msg.specs.PortView.{PortView, port_view}
use Rattle.model_laws.specs.Places.{InHand}
use Rattle.tick_law.specs.WorldPlaces.{SidePlaces, alls, somes, IsFull, emptied}
use Rattle.tick_law.specs.Machine.{Machine}
use Rattle.model_laws.specs.Pass.{scatter, act_if, act_at, side_places}
use Rattle.tick_law.specs.Pass.{has_edge, port_at, gather}
use Rattle.tick_law.specs.Wires.{Has, AllApart}
use Rattle.model_laws.proofs.PortsPutBack.{scatter_last, has_or_not, length-alls, get-alls}

pub apart_take : (xs : List ℕ) (i : ℕ) → AllApart xs → i < length xs → Has (take i xs) (get_or xs i 0) → ⊥
apart_take [] i a b h = absurd (omega arith)
apart_take (x ∷ xs) zero a b h = absurd (omega (arith, h.1))
apart_take (x ∷ xs) (suc i) a b (zero, l, e) = a.0 (i, omega arith, sym e)
apart_take (x ∷ xs) (suc i) a b (suc j, l, e) = apart_take xs i a.1 (omega arith) (j, omega arith, e)

pub set_elsewhere : {A : Type 0} (xs : List A) (q k : ℕ) (x : A) → k ≢ q → slice_get (slice_set xs q x) k ≡ slice_get xs k
set_elsewhere [] q k x n = refl
set_elsewhere (y ∷ ys) zero zero x n = absurd (n refl)
set_elsewhere (y ∷ ys) zero (suc k) x n = refl
set_elsewhere (y ∷ ys) (suc q) zero x n = refl
set_elsewhere (y ∷ ys) (suc q) (suc k) x n = set_elsewhere ys q k x (λ e. n (ap suc e))

pub set_here : {A : Type 0} (xs : List A) (q : ℕ) (x : A) → q < length xs → slice_get (slice_set xs q x) q ≡ Some x
set_here [] q x b = absurd (omega arith)
set_here (y ∷ ys) zero x b = refl
set_here (y ∷ ys) (suc q) x b = set_here ys q x (omega arith)

pub full_at : (os : List (Option PortView)) (q : ℕ) → IsFull os → q < length os → slice_get os q ≡ Some (Some (port_at (somes os) q))
full_at os q full b =
    let same : length (alls (somes os)) ≡ length os = ap length (sym full) in
    let l : q < length (somes os) = omega (arith, length-alls (somes os), same) in
    slice_get-get_or os q None b ∙ ap (λ o. Some o) (ap (λ l. get_or l q None) full ∙ get-alls (somes os) q (port_view [] [] 0) None l)

pub gather_more : (ps : List PortView) (qs : List ℕ) (i : ℕ) → i < length qs → gather ps (take (i + 1) qs) ≡ gather ps (take i qs) ++ port_at ps (get_or qs i 0) ∷ []
gather_more ps qs i b = ap (λ l. gather ps l) (take_more qs i 0 b) ∙ map-append (λ q. port_at ps q) (take i qs) (get_or qs i 0 ∷ [])

pub emptied_more : (os new : List (Option PortView)) (qs : List ℕ) (i : ℕ) → i < length qs → new ≡ slice_set os (get_or qs i 0) None → emptied new (drop (i + 1) qs) ≡ emptied os (drop i qs)
emptied_more os new qs i b e = ap (λ l. emptied l (drop (i + 1) qs)) e ∙ sym (at_drop_more (emptied os) qs i 0 b)

pub has_left : (xs ys : List ℕ) (k : ℕ) → Has xs k → Has (xs ++ ys) k
has_left [] ys k h = absurd (omega (arith, h.1))
has_left (x ∷ xs) ys k (zero, l, e) = (zero, omega arith, e)
has_left (x ∷ xs) ys k (suc j, l, e) = let r = has_left xs ys k (j, omega arith, e) in (suc r.0, omega (arith, r.1), r.2)

pub has_last : (xs : List ℕ) (y : ℕ) → Has (xs ++ y ∷ []) y
has_last [] y = (0, omega arith, refl)
has_last (x ∷ xs) y = let r = has_last xs y in (suc r.0, omega (arith, r.1), r.2)

pub has_more : (qs : List ℕ) (i k : ℕ) → i < length qs → Has (take i qs) k → Has (take (i + 1) qs) k
has_more qs i k b h = subst (λ l. Has l k) (sym (take_more qs i 0 b)) (has_left (take i qs) (get_or qs i 0 ∷ []) k h)

pub has_next : (qs : List ℕ) (i : ℕ) → i < length qs → Has (take (i + 1) qs) (get_or qs i 0)
has_next qs i b = subst (λ l. Has l (get_or qs i 0)) (sym (take_more qs i 0 b)) (has_last (take i qs) (get_or qs i 0))

pub scatter_more : (os new : List (Option PortView)) (qs : List ℕ) (ps rest : List PortView) (p : PortView) (n : ℕ) → n < length qs → length rest ≡ n → ps ≡ rest ++ p ∷ [] → new ≡ slice_set os (get_or qs n 0) (Some p) → scatter new (take n qs) (alls rest) ≡ scatter os (take (n + 1) qs) (alls ps)
scatter_more os new qs ps rest p n b e f g =
    let same : length (take n qs) ≡ length (alls rest) = omega (arith, length-take n qs, length-alls rest) in
    let items : alls ps ≡ alls rest ++ Some p ∷ [] = ap (λ l. alls l) f ∙ map-append (λ x. Some x) rest (p ∷ []) in
    ap (λ l. scatter l (take n qs) (alls rest)) g ∙ sym (ap (λ l. scatter os (take (n + 1) qs) l) items ∙ ap (λ l. scatter os l (alls rest ++ Some p ∷ [])) (take_more qs n 0 b) ∙ scatter_last os (take n qs) (alls rest) (get_or qs n 0) (Some p) same)

pub hand_more : (now old push : InHand) (qs qs' : List ℕ) (ps : List PortView) (p r : PortView) (room : ℕ) → now ≡ push → push ≡ record old { ports = old.ports ++ p ∷ [] } → p ≡ r → old ≡ record { ports = gather ps qs; room = room } → gather ps qs' ≡ gather ps qs ++ r ∷ [] → now ≡ record { ports = gather ps qs'; room = room }
hand_more now old push qs qs' ps p r room a b c e f =
    a ∙ b ∙ ap (λ (h : InHand). let x : InHand = record { ports = h.ports ++ p ∷ []; room = h.room } in x) e ∙ ap (λ l. let x : InHand = record { ports = l; room = room } in x) (ap (λ y. gather ps qs ++ y ∷ []) c ∙ sym f)

-- the numbers that are not among the first ones
pub not_before : (qs : List ℕ) (i k : ℕ) → i < length qs → (Has (take (i + 1) qs) k → ⊥) → (Has (take i qs) k → ⊥) × (k ≢ get_or qs i 0)
not_before qs i k b n = (λ h. n (has_more qs i k b h), λ e. n (subst (λ j. Has (take (i + 1) qs) j) (sym e) (has_next qs i b)))

pub emptied_elsewhere : {A : Type 0} (os : List (Option A)) (qs : List ℕ) (k : ℕ) → (Has qs k → ⊥) → slice_get (emptied os qs) k ≡ slice_get os k
emptied_elsewhere os [] k n = refl
emptied_elsewhere os (q ∷ qs) k n =
    let ne : k ≢ q = λ e. n (0, omega arith, sym e) in
    emptied_elsewhere (slice_set os q None) qs k (λ (j, b, e). n (suc j, omega arith, e)) ∙ set_elsewhere os q k None ne

pub emptied_at : {A : Type 0} (os : List (Option A)) (qs : List ℕ) (k : ℕ) → Has qs k → k < length os → slice_get (emptied os qs) k ≡ Some None
emptied_at os [] k h b = absurd (omega (arith, h.1))
emptied_at os (q ∷ qs) k h b = at_rest (has_or_not qs k) (λ r. emptied_at (slice_set os q None) qs k r (omega (arith, length-set os q None)))
  where
    at_rest : Has qs k ⊎ (Has qs k → ⊥) → (Has qs k → slice_get (emptied (slice_set os q None) qs) k ≡ Some None) → slice_get (emptied (slice_set os q None) qs) k ≡ Some None
    at_rest (inl r) rest = rest r
    at_rest (inr n) rest = emptied_elsewhere (slice_set os q None) qs k n ∙ is_first h
      where
        is_first : Has (q ∷ qs) k → slice_get (slice_set os q None) k ≡ Some None
        is_first (zero, l, e) = subst (λ j. slice_get (slice_set os q None) j ≡ Some None) e (set_here os q None (subst (λ j. j < length os) (sym e) b))
        is_first (suc j, l, e) = absurd (n (j, omega arith, e))

alls_some : {A : Type 0} (xs : List A) (q : ℕ) → slice_get (alls xs) q ≡ Some None → ⊥
alls_some [] q e = cc
alls_some (x ∷ xs) zero e = cc
alls_some (x ∷ xs) (suc q) e = alls_some xs q e

pub full_some : {A : Type 0} (os : List (Option A)) (q : ℕ) → IsFull os → slice_get os q ≡ Some None → ⊥
full_some os q f e = alls_some (somes os) q (ap (λ l. slice_get l q) (sym f) ∙ e)

pub set_twice : {A : Type 0} (xs : List A) (q : ℕ) (x y : A) → slice_set (slice_set xs q x) q y ≡ slice_set xs q y
set_twice [] q x y = refl
set_twice (z ∷ zs) zero x y = refl
set_twice (z ∷ zs) (suc q) x y = ap (λ l. z ∷ l) (set_twice zs q x y)

pub set_same : {A : Type 0} (xs : List A) (q : ℕ) (y : A) → slice_get xs q ≡ Some y → slice_set xs q y ≡ xs
set_same [] q y e = refl
set_same (z ∷ zs) zero y e = ap (λ x. x ∷ zs) (let same : y ≡ z = cc in same)
set_same (z ∷ zs) (suc q) y e = ap (λ l. z ∷ l) (set_same zs q y e)

module _ {S : Type 0} where
  pub side_places_is : (a b : List (Option S)) (e f : List (Option PortView)) → a ≡ b → e ≡ f → let x : SidePlaces S = record { actors = a; ports = e } in let y : SidePlaces S = record { actors = b; ports = f } in x ≡ y
  side_places_is a b e f g h = cc

  -- an actor with an edge is put back after its step
  pub act_done : (m : Machine S) (own : List ℕ) (i t d r : ℕ) (actors s1 s4 : List (Option S)) (ports pg p2 : List (Option PortView)) (hg ht : InHand) (s new : S) → slice_get actors i ≡ Some (Some s) → d ≡ m.period s → has_edge m t s ≡ true →
      s1 ≡ slice_set actors i None →
      pg ≡ emptied ports own →
      hg ≡ record { ports = gather (somes ports) own; room = r } →
      ht ≡ record hg { ports = (m.step s hg.ports (t / d)).ports } →
      new ≡ (m.step s hg.ports (t / d)).state →
      p2 ≡ scatter pg own (alls ht.ports) →
      s4 ≡ slice_set s1 i (Some new) →
      side_places s4 p2 ≡ act_at m own i t (side_places actors ports) (slice_get actors i)
  act_done m own i t d r actors s1 s4 ports pg p2 hg ht s new at period edge e f g h k l n =
      let st = m.step s (gather (somes ports) own) (t / m.period s) in
      let new_is : new ≡ st.state = cc in
      let seats_are : s4 ≡ slice_set actors i (Some st.state) = n ∙ ap (λ x. slice_set x i (Some new)) e ∙ set_twice actors i None (Some new) ∙ ap (λ x. slice_set actors i (Some x)) new_is in
      let ports_are : p2 ≡ scatter (emptied ports own) own (alls st.ports) = cc in
      side_places_is _ _ _ _ seats_are ports_are ∙ sym (ap (act_at m own i t (side_places actors ports)) at ∙ ap (λ b. act_if b m own i t (side_places actors ports) s) edge)

  -- an actor with no edge is put back as it was
  pub act_none : (m : Machine S) (own : List ℕ) (i t : ℕ) (actors s1 s4 : List (Option S)) (ports p2 : List (Option PortView)) (s new : S) → slice_get actors i ≡ Some (Some s) → has_edge m t s ≡ false →
      s1 ≡ slice_set actors i None → p2 ≡ ports → new ≡ s → s4 ≡ slice_set s1 i (Some new) →
      side_places s4 p2 ≡ act_at m own i t (side_places actors ports) (slice_get actors i)
  act_none m own i t actors s1 s4 ports p2 s new at edge e f g n =
      let seats_are : s4 ≡ actors = n ∙ ap (λ x. slice_set x i (Some new)) e ∙ set_twice actors i None (Some new) ∙ ap (λ x. slice_set actors i (Some x)) g ∙ set_same actors i (Some s) at in
      side_places_is _ _ _ _ seats_are f ∙ sym (ap (act_at m own i t (side_places actors ports)) at ∙ ap (λ b. act_if b m own i t (side_places actors ports) s) edge)
