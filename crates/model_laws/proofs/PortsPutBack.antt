-- Ports are taken out of their places and put back.
use Rattle.std.specs.Prelude.{◌≡◌, ◌≢◌, ℕ, ◌<◌, ◌==◌, ◌⊎◌, List, [], ◌∷◌, ◌++◌, length, Option, Some, None, Bool, true, false, slice_set, refl}
use Rattle.std.proofs.Common.{zero, suc, sym, ◌∙◌, ap, arith, get_or, inl, inr}
use Rattle.std.proofs.lemmas.List.{same_lists, length-set, get_or-set_other}
use Rattle.port_msg.specs.PortView.{PortView, port_view}
use Rattle.tick_law.specs.Pass.{place}
use Rattle.model_laws.specs.Pass.{scatter}
use Rattle.tick_law.specs.WorldPlaces.{alls, somes, IsFull, emptied}
use Rattle.tick_law.specs.Wires.{Has}
use Rattle.model_laws.proofs.OneMoreActor.{is_same, is_other, has_rest, length-scatter, scatter_other, scatter_at, place_below}

pub somes-alls : {A : Type 0} (xs : List A) → somes (alls xs) ≡ xs
somes-alls [] = refl
somes-alls (x ∷ xs) = ap (λ l. x ∷ l) (somes-alls xs)

pub alls_full : {A : Type 0} (xs : List A) → IsFull (alls xs)
alls_full xs = ap (λ l. alls l) (sym (somes-alls xs))

pub get-alls : {A : Type 0} (xs : List A) (k : ℕ) (d : A) (e : Option A) → k < length xs → get_or (alls xs) k e ≡ Some (get_or xs k d)
get-alls [] k d e h = absurd (omega arith)
get-alls (x ∷ xs) zero d e h = refl
get-alls (x ∷ xs) (suc k) d e h = get-alls xs k d e (omega arith)

pub length-alls : {A : Type 0} (xs : List A) → length (alls xs) ≡ length xs
length-alls [] = refl
length-alls (x ∷ xs) = ap suc (length-alls xs)

pub length-emptied : {A : Type 0} (os : List (Option A)) (qs : List ℕ) → length (emptied os qs) ≡ length os
length-emptied os [] = refl
length-emptied os (q ∷ qs) = length-emptied (slice_set os q None) qs ∙ length-set os q None

pub emptied_other : {A : Type 0} (os : List (Option A)) (qs : List ℕ) (k : ℕ) (d : Option A) → (Has qs k → ⊥) → get_or (emptied os qs) k d ≡ get_or os k d
emptied_other os [] k d n = refl
emptied_other os (q ∷ qs) k d n =
    let ne : k ≢ q = λ e. n (0, omega arith, sym e) in
    emptied_other (slice_set os q None) qs k d (λ (j, b, e). n (suc j, omega arith, e)) ∙ get_or-set_other os q k None d ne

pub has_or_not : (qs : List ℕ) (k : ℕ) → Has qs k ⊎ (Has qs k → ⊥)
has_or_not [] k = inr (λ h. absurd (omega (arith, h.1)))
has_or_not (q ∷ qs) k = at_first (q == k) refl (has_or_not qs k)
  where
    in_rest : (q ≡ k → ⊥) → Has qs k ⊎ (Has qs k → ⊥) → Has (q ∷ qs) k ⊎ (Has (q ∷ qs) k → ⊥)
    in_rest n (inl (j, b, e)) = inl (suc j, omega arith, e)
    in_rest n (inr m) = inr (λ h. m (has_rest q qs k h n))

    at_first : (b : Bool) → (q == k) ≡ b → Has qs k ⊎ (Has qs k → ⊥) → Has (q ∷ qs) k ⊎ (Has (q ∷ qs) k → ⊥)
    at_first true e r = inl (0, omega arith, is_same q k e)
    at_first false e r = in_rest (is_other q k e) r

-- what was taken out is put back as new ports
pub put_back : (ports : List PortView) (qs : List ℕ) (new : List PortView) → length qs ≡ length new → ((q : ℕ) → Has qs q → q < length ports) → scatter (emptied (alls ports) qs) qs (alls new) ≡ alls (scatter ports qs new)
put_back ports qs new same within =
    same_lists (scatter (emptied (alls ports) qs) qs (alls new)) (alls (scatter ports qs new))
    (length-scatter (emptied (alls ports) qs) qs (alls new) ∙ length-emptied (alls ports) qs ∙ length-alls ports ∙ sym (length-alls (scatter ports qs new) ∙ length-scatter ports qs new))
    (λ k d l. here k d (omega (arith, l, length-scatter (emptied (alls ports) qs) qs (alls new), length-emptied (alls ports) qs, length-alls ports)) (has_or_not qs k))
  where
    here : (k : ℕ) (d : Option PortView) → k < length ports → Has qs k ⊎ (Has qs k → ⊥) → get_or (scatter (emptied (alls ports) qs) qs (alls new)) k d ≡ get_or (alls (scatter ports qs new)) k d
    here k d b (inl h) =
        let none = port_view [] [] 0 in
        let l : place k qs < length new = let p = place_below k qs h in omega (arith, p, same) in
        scatter_at (emptied (alls ports) qs) qs (alls new) k d h (same ∙ sym (length-alls new)) (omega (arith, length-emptied (alls ports) qs, length-alls ports)) ∙ get-alls new (place k qs) none d l ∙ ap (λ p. Some p) (sym (scatter_at ports qs new k none h same b)) ∙ sym (get-alls (scatter ports qs new) k none d (omega (arith, length-scatter ports qs new)))
    here k d b (inr n) =
        let none = port_view [] [] 0 in
        scatter_other (emptied (alls ports) qs) qs (alls new) k d n ∙ emptied_other (alls ports) qs k d n ∙ get-alls ports k none d b ∙ ap (λ p. Some p) (sym (scatter_other ports qs new k none n)) ∙ sym (get-alls (scatter ports qs new) k none d (omega (arith, length-scatter ports qs new)))

-- the last is put back first
pub scatter_last : {A : Type 0} (xs : List A) (qs : List ℕ) (ys : List A) (q : ℕ) (y : A) → length qs ≡ length ys → scatter xs (qs ++ q ∷ []) (ys ++ y ∷ []) ≡ scatter (slice_set xs q y) qs ys
scatter_last xs [] [] q y e = refl
scatter_last xs [] (z ∷ zs) q y e = absurd (omega arith)
scatter_last xs (p ∷ ps) [] q y e = absurd (omega arith)
scatter_last xs (p ∷ ps) (z ∷ zs) q y e = ap (λ l. slice_set l p z) (scatter_last xs ps zs q y (omega arith))
