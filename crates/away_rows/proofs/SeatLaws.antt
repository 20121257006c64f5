-- One actor leaves, or comes back, and the others stay as they are.
use Rattle.std.proofs.Common.{◌≡◌, ◌≢◌, ℕ, zero, suc, ◌*◌, ◌<◌, ◌≤◌, ◌⊎◌, inl, inr, List, [], ◌∷◌, length, get_or, set, sym, ◌∙◌, ap, subst, arith, refl, Global}
use Rattle.std.specs.Prelude.{Option, Some, None, Bool, true, false, slice_get, Box}
use Rattle.std.proofs.lemmas.List.{length-set, get_or-set_same, get_or-set_other}
use Rattle.std.proofs.lemmas.Bool.{cases_eq, cases_lt}
use Rattle.bit_set.specs.Bits.{is_in}
use Rattle.port_msg.specs.PortView.{PortView, port_view}
use Rattle.port_msg.specs.declared.records.Record.{Record}
use Rattle.port_row.specs.declared.face.Face.{Face}
use Rattle.port_row.specs.Row.{PortsView, face_at, face_of, no_face}
use Rattle.port_rows.specs.Rows.{RowsView}
use Rattle.tick_law.specs.Wires.{Wires, own_of, owner_of, Has, Wired}
use Rattle.tick_law.specs.Pass.{port_at}
use Rattle.model_laws.specs.Pass.{scatter}
use Rattle.model_laws.proofs.OneMoreActor.{length-scatter, scatter_other}
use Rattle.away_rows.specs.declared.body.Body.{Body}
use Rattle.away_rows.specs.Bodies.{body_at, Sits, IsBody, HasRow, SeatSet, Seated, Placed}

module _ {S : Type 0} where
  pub row_some : (own : List ℕ) (o : Option (Body S)) → HasRow own o → (b : Body S) × (o ≡ Some b)
  row_some own None h = absurd h
  row_some own (Some b) h = (b, refl)

  -- what a seat has, where it has something
  pub sits_some : (own : List ℕ) (s : S) (did : List Record) (o : Option (Body S)) → Sits own s did o → (b : Body S) × (o ≡ Some b) × IsBody own s did b
  sits_some own s did None h = absurd h
  sits_some own s did (Some b) h = (b, refl, h)

  pub sits_row : (own : List ℕ) (s : S) (did : List Record) (o : Option (Body S)) → Sits own s did o → HasRow own o
  sits_row own s did None h = absurd h
  sits_row own s did (Some b) h = (h.ports, h.seen)

pub in_same : (xs : List Bool) (i : ℕ) (b : Bool) → i < length xs → is_in (set xs i b) i ≡ b
in_same xs i b l = get_or-set_same xs i b false l

pub in_other : (xs : List Bool) (i k : ℕ) (b : Bool) → k ≢ i → is_in (set xs i b) k ≡ is_in xs k
in_other xs i k b n = get_or-set_other xs i k b false n

not_both : (b : Bool) → b ≡ true → b ≡ false → ⊥
not_both true e f = absurd (cc)
not_both false e f = absurd (cc)

module _ {S : Type 0} where
  -- actor i is out of its seat
  pub seated_leave : (w : Wires) (out : List Bool) (states : List S) (did : ℕ → List Record) (seats new : List (Option (Box (Body S) Global))) (i : ℕ) → i < length out → SeatSet seats new i None → Seated w out states did seats → Seated w (set out i true) states did new
  seated_leave w out states did seats new i b gone was = record {
    all = gone.long ∙ was.all;
    sits = λ k s e home. at k s e home (cases_eq k i);
  }
    where
      at : (k : ℕ) (s : S) → slice_get states k ≡ Some s → is_in (set out i true) k ≡ false → (k ≡ i) ⊎ (k ≢ i) → Sits (own_of w k) s (did k) (body_at new k)
      at k s e home (inl f) = absurd (not_both (is_in (set out i true) k) (ap (is_in (set out i true)) f ∙ in_same out i true b) home)
      at k s e home (inr n) = subst (λ o. Sits (own_of w k) s (did k) o) (sym (gone.others k n)) (was.sits k s e (sym (in_other out i k true n) ∙ home))

  -- it is back in it, in another state
  pub seated_return : (w : Wires) (out : List Bool) (states states' : List S) (did did' : ℕ → List Record) (seats new : List (Option (Box (Body S) Global))) (i : ℕ) (s : S) (b : Body S) →
      i < length states → states' ≡ set states i s → ((k : ℕ) → k ≢ i → did' k ≡ did k) → SeatSet seats new i (Some b) → IsBody (own_of w i) s (did' i) b → Seated w out states did seats → Seated w (set out i false) states' did' new
  seated_return w out states states' did did' seats new i s b here new_states others put is was = record {
    all = put.long ∙ was.all ∙ sym (ap length new_states ∙ length-set states i s);
    sits = λ k x e home. at k x e home (cases_eq k i);
  }
    where
      same_some : (a c : S) → (let p : Option S = Some a in let q : Option S = Some c in p ≡ q) → a ≡ c
      same_some a c e = cc

      get_same : (xs : List S) (j : ℕ) → j < length xs → slice_get (set xs j s) j ≡ Some s
      get_same [] j l = absurd (omega arith)
      get_same (x ∷ xs) zero l = refl
      get_same (x ∷ xs) (suc j) l = get_same xs j (omega arith)

      get_other : (xs : List S) (j k : ℕ) → k ≢ j → slice_get (set xs j s) k ≡ slice_get xs k
      get_other [] j k n = refl
      get_other (x ∷ xs) zero zero n = absurd (n refl)
      get_other (x ∷ xs) zero (suc k) n = refl
      get_other (x ∷ xs) (suc j) zero n = refl
      get_other (x ∷ xs) (suc j) (suc k) n = get_other xs j k (λ e. n (ap suc e))

      at : (k : ℕ) (x : S) → slice_get states' k ≡ Some x → is_in (set out i false) k ≡ false → (k ≡ i) ⊎ (k ≢ i) → Sits (own_of w k) x (did' k) (body_at new k)
      at k x e home (inl f) =
          let g : s ≡ x = same_some s x (sym (get_same states i here) ∙ ap (λ l. slice_get l i) (sym new_states) ∙ ap (slice_get states') (sym f) ∙ e) in
          subst (λ j. Sits (own_of w j) x (did' j) (body_at new j)) (sym f)
          (subst (λ y. Sits (own_of w i) y (did' i) (body_at new i)) g
          (subst (λ o. Sits (own_of w i) s (did' i) o) (sym put.here) is))
      at k x e home (inr n) =
          subst (λ l. Sits (own_of w k) x l (body_at new k)) (sym (others k n))
          (subst (λ o. Sits (own_of w k) x (did k) o) (sym (put.others k n))
          (was.sits k x (sym (get_other states i k n) ∙ ap (λ l. slice_get l k) (sym new_states) ∙ e) (sym (in_other out i k false n) ∙ home)))

-- the ports of actor i stand in their places no more
pub placed_leave : (w : Wires) (all_seen : Bool) (out : List Bool) (ports : List PortView) (rows new : RowsView) (i : ℕ) (others : List PortView) (faces : List Face) → i < length out → Wired w (length ports) →
    new.ports ≡ scatter rows.ports (own_of w i) others → ((all_seen ≡ true) × (new.seen ≡ rows.seen)) ⊎ ((all_seen ≡ false) × (new.seen ≡ scatter rows.seen (own_of w i) faces)) →
    Placed w all_seen out ports rows → Placed w all_seen (set out i true) ports new
placed_leave w all_seen out ports rows new i others faces b wired moved seen was = record {
  long = ap length moved ∙ length-scatter rows.ports (own_of w i) others ∙ was.long;
  seen_long = long seen;
  stand = λ q l home. let n = elsewhere q home in ap (λ x. port_at x q) moved ∙ scatter_other rows.ports (own_of w i) others q (port_view [] [] 0) (apart q n) ∙ was.stand q l (sym (in_other out i (owner_of w q) true n) ∙ home);
  seen = λ q l how. seen_at q l seen how;
}
  where
    elsewhere : (q : ℕ) → is_in (set out i true) (owner_of w q) ≡ false → owner_of w q ≢ i
    elsewhere q home e = not_both (is_in (set out i true) (owner_of w q)) (ap (is_in (set out i true)) e ∙ in_same out i true b) home

    apart : (q : ℕ) → owner_of w q ≢ i → Has (own_of w i) q → ⊥
    apart q n has = n (wired.listed i q has)

    long : ((all_seen ≡ true) × (new.seen ≡ rows.seen)) ⊎ ((all_seen ≡ false) × (new.seen ≡ scatter rows.seen (own_of w i) faces)) → length new.seen ≡ length ports
    long (inl (e, f)) = ap length f ∙ was.seen_long
    long (inr (e, f)) = ap length f ∙ length-scatter rows.seen (own_of w i) faces ∙ was.seen_long

    seen_at : (q : ℕ) → q < length ports → ((all_seen ≡ true) × (new.seen ≡ rows.seen)) ⊎ ((all_seen ≡ false) × (new.seen ≡ scatter rows.seen (own_of w i) faces)) → (all_seen ≡ true) ⊎ (is_in (set out i true) (owner_of w q) ≡ false) → face_at new.seen q ≡ face_of (port_at ports q)
    seen_at q l (inl (e, f)) how = ap (λ x. face_at x q) f ∙ was.seen q l (inl e)
    seen_at q l (inr (e, f)) (inl g) = absurd (not_both all_seen g e)
    seen_at q l (inr (e, f)) (inr home) =
        let n = elsewhere q home in
        ap (λ x. face_at x q) f ∙ scatter_other rows.seen (own_of w i) faces q no_face (apart q n) ∙ was.seen q l (inr (sym (in_other out i (owner_of w q) true n) ∙ home))
