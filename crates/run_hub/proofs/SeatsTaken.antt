-- Actors that leave their seats one after another.
use Rattle.std.proofs.Common.{◌≡◌, ℕ, ◌≤◌, List, [], ◌∷◌, ◌++◌, length, suc, ◌∙◌, ap, subst, arith, refl, Global}
use Rattle.std.specs.Prelude.{Option, Some, None, slice_get, Box}
use Rattle.port_msg.specs.declared.records.Record.{Record}
use Rattle.tick_law.specs.Wires.{Wires, own_of}
use Rattle.away_rows.specs.declared.body.Body.{Body}
use Rattle.away_rows.specs.Bodies.{body_at, Sits, IsBody, Seated}
use Rattle.run_hub.specs.Seats.{actors_in}

module _ {S : Type 0} where
  pub left_append : (xs ys : List (Option (Box (Body S) Global))) → actors_in (xs ++ ys) ≡ actors_in xs ++ actors_in ys
  left_append [] ys = refl
  left_append (None ∷ xs) ys = left_append xs ys
  left_append (Some b ∷ xs) ys = ap (λ l. b.value.actor ∷ l) (left_append xs ys)

  pub fewer_left : (xs : List (Option (Box (Body S) Global))) → length (actors_in xs) ≤ length xs
  fewer_left [] = omega arith
  fewer_left (None ∷ xs) = let l = fewer_left xs in omega (arith, l)
  fewer_left (Some b ∷ xs) = let l = fewer_left xs in omega (arith, l)

  -- where all sit in their seats, those who leave are all
  all_left : (states : List S) (seats : List (Option (Box (Body S) Global))) → length seats ≡ length states → ((i : ℕ) (s : S) → slice_get states i ≡ Some s → (b : Body S) × (body_at seats i ≡ Some b) × (b.actor ≡ s)) → actors_in seats ≡ states
  all_left [] [] e sit = refl
  all_left [] (o ∷ os) e sit = absurd (omega (arith, e))
  all_left (s ∷ ss) [] e sit = absurd (omega (arith, e))
  all_left (s ∷ ss) (None ∷ os) e sit = absurd (let h = (sit 0 s refl).1 in cc)
  all_left (s ∷ ss) (Some b ∷ os) e sit =
      let h = sit 0 s refl in
      let same : b.value ≡ h.0 = (let f : Some b.value ≡ Some h.0 = h.1 in cc) in
      ap (λ (x : Body S). x.actor ∷ actors_in os) same ∙ ap (λ x. x ∷ actors_in os) h.2
      ∙ ap (λ l. s ∷ l) (all_left ss os (omega (arith, e)) (λ i x at. sit (suc i) x at))

  pub seated_left : (w : Wires) (states : List S) (did : ℕ → List Record) (seats : List (Option (Box (Body S) Global))) → Seated w [] states did seats → actors_in seats ≡ states
  seated_left w states did seats is = all_left states seats is.all (λ i s e. by i s (body_at seats i) refl (is.sits i s e refl))
    where
      by : (i : ℕ) (s : S) (o : Option (Body S)) → body_at seats i ≡ o → Sits (own_of w i) s (did i) (body_at seats i) → (b : Body S) × (body_at seats i ≡ Some b) × (b.actor ≡ s)
      by i s None e h = absurd (subst (λ o. Sits (own_of w i) s (did i) o) e h)
      by i s (Some b) e h = (b, e, (let is : IsBody (own_of w i) s (did i) b = subst (λ o. Sits (own_of w i) s (did i) o) e h in is.actor))
