-- A row is what its owner's numbers gather, and a change of a row scatters.
use Rattle.std.proofs.Common.{◌≡◌, ◌≢◌, ℕ, ◌<◌, ◌≤◌, ◌⊎◌, inl, inr, List, [], ◌∷◌, ◌++◌, length, take, drop, append_assoc, drop-cons, get_or, set, map, sym, ◌∙◌, ap, subst, arith, refl, zero, suc}
use Rattle.std.specs.Prelude.{Option, Some, None, IfNone, IfSome}
use Rattle.std.proofs.lemmas.List.{get_or_read, get_or-set_same, get_or-set_other, length-set, length-map, same_lists, map-set, set-get_or, get_or_default, set_past, get_or_at, set_at, length-take-le}
use Rattle.std.proofs.lemmas.List.FromFn.{length-map-range_with_len, get_or-map-range_with_len}
use Rattle.std.proofs.lemmas.Bool.{cases_eq, cases_lt, eq-eqb, ne_eqb}
use Rattle.tick_law.specs.Wires.{Wires, own_of, owner_of, Has, AllApart, Wired}
use Rattle.tick_law.specs.Pass.{place, next_place, gather}
use Rattle.std.proofs.Math.Seq.{take-suc}
use Rattle.model_laws.specs.Pass.{scatter}
use Rattle.model_laws.proofs.PortsPutBack.{has_or_not}
use Rattle.model_laws.proofs.OneMoreActor.{length-scatter, scatter_other, scatter_at, place_below}
use Rattle.port_msg.specs.PortView.{PortView, port_view}
use Rattle.port_row.specs.declared.face.Face.{Face}
use Rattle.port_row.specs.Row.{PortsView, no_face, port_at, face_at, face_of, NoChange, IsNextTouched}
use Rattle.port_rows.specs.Rows.{RowsView, held_at, by_number, AreRows, ports_in, seen_in, rows_view, IsSeated, NoChangeAt, IsNextAt, with_row, row_of_link}

-- where a number of a list stands is its place
pub place_is : (xs : List ℕ) (k : ℕ) → AllApart xs → k < length xs → place (get_or xs k 0) xs ≡ k
place_is [] k a b = absurd (omega arith)
place_is (x ∷ xs) zero a b = ap (λ c. next_place c (place x xs)) (eq-eqb x x refl)
place_is (x ∷ xs) (suc k) a b =
    let other : x ≢ get_or xs k 0 = λ e. a.0 (k, omega arith, sym e) in
    ap (λ c. next_place c (place (get_or xs k 0) xs)) (ne_eqb x (get_or xs k 0) other) ∙ ap suc (place_is xs k a.1 (omega arith))

pub has_place : (q : ℕ) (xs : List ℕ) → Has xs q → get_or xs (place q xs) 0 ≡ q
has_place q [] h = absurd (omega (arith, h.1))
has_place q (x ∷ xs) h = at (cases_eq x q) (λ r. has_place q xs r)
  where
    rest : (x ≡ q → ⊥) → Has (x ∷ xs) q → Has xs q
    rest n (zero, b, e) = absurd (n e)
    rest n (suc j, b, e) = (j, omega arith, e)

    at : (x ≡ q) ⊎ (x ≡ q → ⊥) → (Has xs q → get_or xs (place q xs) 0 ≡ q) → get_or (x ∷ xs) (place q (x ∷ xs)) 0 ≡ q
    at (inl e) more = ap (λ c. get_or (x ∷ xs) (next_place c (place q xs)) 0) (eq-eqb x q e) ∙ e
    at (inr n) more = ap (λ c. get_or (x ∷ xs) (next_place c (place q xs)) 0) (ne_eqb x q n) ∙ more (rest n h)

module _ {A : Type 0} where
  pub length-by : (rows : List (List A)) (w : Wires) (d : A) → length (by_number rows w d) ≡ length w.owner
  length-by rows w d = length-map-range_with_len (held_at rows w d) 0 (length w.owner)

  pub get-by : (rows : List (List A)) (w : Wires) (d e : A) (q : ℕ) → q < length w.owner → get_or (by_number rows w d) q e ≡ held_at rows w d q
  get-by rows w d e q b = get_or-map-range_with_len (held_at rows w d) 0 (length w.owner) q q e b (omega arith)

  -- the row of one owner, by its numbers
  pub row_at : (rows : List (List A)) (w : Wires) (d : A) (j k : ℕ) → Wired w (length w.owner) → k < length (own_of w j) → get_or (by_number rows w d) (get_or (own_of w j) k 0) d ≡ get_or (get_or rows j []) k d
  row_at rows w d j k wired b =
      let q = get_or (own_of w j) k 0 in
      let has : Has (own_of w j) q = (k, b, refl) in
      let owner : owner_of w q ≡ j = wired.listed j q has in
      get-by rows w d d q (wired.within j q has)
      ∙ ap (λ i. get_or (get_or rows i []) (place q (own_of w i)) d) owner
      ∙ ap (λ p. get_or (get_or rows j []) p d) (place_is (own_of w j) k (wired.apart j) b)

  pub row_is : (rows : List (List A)) (w : Wires) (d : A) (j : ℕ) → Wired w (length w.owner) → AreRows rows w → get_or rows j [] ≡ map (λ q. get_or (by_number rows w d) q d) (own_of w j)
  row_is rows w d j wired are =
      same_lists (get_or rows j []) (map (λ q. get_or (by_number rows w d) q d) (own_of w j)) (are.1 j ∙ sym (length-map (own_of w j) (λ q. get_or (by_number rows w d) q d)))
      (λ k e b. at k e b (omega (arith, b, are.1 j)))
    where
      map_at : (f : ℕ → A) (xs : List ℕ) (k : ℕ) (e : A) → k < length xs → get_or (map f xs) k e ≡ f (get_or xs k 0)
      map_at f [] k e b = absurd (omega arith)
      map_at f (x ∷ xs) zero e b = refl
      map_at f (x ∷ xs) (suc k) e b = map_at f xs k e (omega arith)

      at : (k : ℕ) (e : A) → k < length (get_or rows j []) → k < length (own_of w j) → get_or (get_or rows j []) k e ≡ get_or (map (λ q. get_or (by_number rows w d) q d) (own_of w j)) k e
      at k e b c = get_or_default (get_or rows j []) k e d b ∙ sym (row_at rows w d j k wired c) ∙ sym (map_at (λ q. get_or (by_number rows w d) q d) (own_of w j) k e c)

  -- the row of one owner is another
  pub row_changed : (rows : List (List A)) (w : Wires) (d : A) (j : ℕ) (new : List A) → Wired w (length w.owner) → j < length rows → length new ≡ length (own_of w j) → by_number (set rows j new) w d ≡ scatter (by_number rows w d) (own_of w j) new
  row_changed rows w d j new wired here long =
      same_lists (by_number (set rows j new) w d) (scatter (by_number rows w d) (own_of w j) new)
      (length-by (set rows j new) w d ∙ sym (length-scatter (by_number rows w d) (own_of w j) new ∙ length-by rows w d))
      (λ q e b. at q e (omega (arith, b, length-by (set rows j new) w d)) (cases_eq (owner_of w q) j))
    where
      at : (q : ℕ) (e : A) → q < length w.owner → (owner_of w q ≡ j) ⊎ (owner_of w q ≡ j → ⊥) → get_or (by_number (set rows j new) w d) q e ≡ get_or (scatter (by_number rows w d) (own_of w j) new) q e
      at q e b (inl o) =
          let has : Has (own_of w j) q = subst (λ i. Has (own_of w i) q) o (wired.found q b) in
          let p : place q (own_of w j) < length new = omega (arith, place_below q (own_of w j) has, long) in
          get-by (set rows j new) w d e q b
          ∙ ap (λ i. get_or (get_or (set rows j new) i []) (place q (own_of w i)) d) o
          ∙ ap (λ l. get_or l (place q (own_of w j)) d) (get_or-set_same rows j new [] here)
          ∙ get_or_default new (place q (own_of w j)) d e p
          ∙ sym (scatter_at (by_number rows w d) (own_of w j) new q e has (sym long) (omega (arith, b, length-by rows w d)))
      at q e b (inr n) =
          let out : Has (own_of w j) q → ⊥ = λ h. n (wired.listed j q h) in
          get-by (set rows j new) w d e q b
          ∙ ap (λ l. get_or l (place q (own_of w (owner_of w q))) d) (get_or-set_other rows j (owner_of w q) new [] n)
          ∙ sym (get-by rows w d e q b)
          ∙ sym (scatter_other (by_number rows w d) (own_of w j) new q e out)

  -- one of a row is another
  pub one_changed : (rows : List (List A)) (w : Wires) (d : A) (q : ℕ) (x : A) → Wired w (length w.owner) → AreRows rows w → q < length w.owner → owner_of w q < length w.own → by_number (set rows (owner_of w q) (set (get_or rows (owner_of w q) []) (place q (own_of w (owner_of w q))) x)) w d ≡ set (by_number rows w d) q x
  one_changed rows w d q x wired are here owned =
      let j = owner_of w q in
      let k = place q (own_of w j) in
      let new = set (get_or rows j []) k x in
      same_lists (by_number (set rows j new) w d) (set (by_number rows w d) q x)
      (length-by (set rows j new) w d ∙ sym (length-set (by_number rows w d) q x ∙ length-by rows w d))
      (λ p e b. at p e (omega (arith, b, length-by (set rows j new) w d)) (cases_eq p q) (cases_eq (owner_of w p) j))
    where
      has : Has (own_of w (owner_of w q)) q
      has = wired.found q here

      within : place q (own_of w (owner_of w q)) < length (get_or rows (owner_of w q) [])
      within = omega (arith, place_below q (own_of w (owner_of w q)) has, are.1 (owner_of w q))

      row_there : owner_of w q < length rows
      row_there = omega (arith, owned, are.0)

      at : (p : ℕ) (e : A) → p < length w.owner → (p ≡ q) ⊎ (p ≡ q → ⊥) → (owner_of w p ≡ owner_of w q) ⊎ (owner_of w p ≡ owner_of w q → ⊥) → get_or (by_number (set rows (owner_of w q) (set (get_or rows (owner_of w q) []) (place q (own_of w (owner_of w q))) x)) w d) p e ≡ get_or (set (by_number rows w d) q x) p e
      at p e b (inl s) _ =
          let j = owner_of w q in
          let k = place q (own_of w j) in
          let new = set (get_or rows j []) k x in
          ap (λ i. get_or (by_number (set rows j new) w d) i e) s
          ∙ get-by (set rows j new) w d e q here
          ∙ ap (λ l. get_or l k d) (get_or-set_same rows j new [] row_there)
          ∙ get_or-set_same (get_or rows j []) k x d within
          ∙ sym (get_or-set_same (by_number rows w d) q x e (omega (arith, here, length-by rows w d)))
          ∙ ap (λ i. get_or (set (by_number rows w d) q x) i e) (sym s)
      at p e b (inr n) (inl o) =
          let j = owner_of w q in
          let k = place q (own_of w j) in
          let new = set (get_or rows j []) k x in
          let l = place p (own_of w j) in
          let p_has : Has (own_of w j) p = subst (λ i. Has (own_of w i) p) o (wired.found p b) in
          let apart : l ≢ k = λ f. n (sym (has_place p (own_of w j) p_has) ∙ ap (λ i. get_or (own_of w j) i 0) f ∙ has_place q (own_of w j) has) in
          get-by (set rows j new) w d e p b
          ∙ ap (λ i. get_or (get_or (set rows j new) i []) (place p (own_of w i)) d) o
          ∙ ap (λ r. get_or r l d) (get_or-set_same rows j new [] row_there)
          ∙ get_or-set_other (get_or rows j []) k l x d apart
          ∙ ap (λ i. get_or (get_or rows i []) (place p (own_of w i)) d) (sym o)
          ∙ sym (get-by rows w d e p b)
          ∙ sym (get_or-set_other (by_number rows w d) q p x e n)
      at p e b (inr n) (inr o) =
          let j = owner_of w q in
          let new = set (get_or rows j []) (place q (own_of w j)) x in
          get-by (set rows j new) w d e p b
          ∙ ap (λ l. get_or l (place p (own_of w (owner_of w p))) d) (get_or-set_other rows j (owner_of w p) new [] o)
          ∙ sym (get-by rows w d e p b)
          ∙ sym (get_or-set_other (by_number rows w d) q p x e n)

  -- rows of which one is another as long
  pub rows_kept : (rows : List (List A)) (w : Wires) (j : ℕ) (new : List A) → AreRows rows w → length new ≡ length (own_of w j) → AreRows (set rows j new) w
  rows_kept rows w j new are long = (length-set rows j new ∙ are.0, λ i. at i (cases_eq i j))
    where
      at : (i : ℕ) → (i ≡ j) ⊎ (i ≡ j → ⊥) → length (get_or (set rows j new) i []) ≡ length (own_of w i)
      at i (inl e) = within i e (cases_lt j (length rows))
        where
          within : (i : ℕ) → i ≡ j → (j < length rows) ⊎ (length rows ≤ j) → length (get_or (set rows j new) i []) ≡ length (own_of w i)
          within i e (inl b) = ap (λ k. length (get_or (set rows j new) k [])) e ∙ ap length (get_or-set_same rows j new [] b) ∙ long ∙ ap (λ k. length (own_of w k)) (sym e)
          within i e (inr b) = ap (λ l. length (get_or l i [])) (set_past rows j new b) ∙ are.1 i
      at i (inr n) = ap length (get_or-set_other rows j i new [] n) ∙ are.1 i

abbrev pub no_row : PortsView
no_row = record { ports = []; seen = [] }

abbrev pub row_of : List PortsView → ℕ → PortsView
row_of rows j = get_or rows j no_row

get-map : {A B : Type 0} (f : A → B) (xs : List A) (k : ℕ) (d : A) → get_or (map f xs) k (f d) ≡ f (get_or xs k d)
get-map f [] k d = refl
get-map f (x ∷ xs) zero d = refl
get-map f (x ∷ xs) (suc k) d = get-map f xs k d

pub ports_row : (rows : List PortsView) (j : ℕ) → get_or (ports_in rows) j [] ≡ (row_of rows j).ports
ports_row rows j = get-map (λ (r : PortsView). r.ports) rows j no_row

pub seen_row : (rows : List PortsView) (j : ℕ) → get_or (seen_in rows) j [] ≡ (row_of rows j).seen
seen_row rows j = get-map (λ (r : PortsView). r.seen) rows j no_row

pub link_below : (rows : List PortsView) (w : Wires) (places : List ℕ) (j : ℕ) → IsSeated rows w places → j < length w.own → j < length rows
link_below rows w places j is b = omega (arith, b, is.ports_are.0, length-map rows (λ (r : PortsView). r.ports))

pub row_long : (rows : List PortsView) (w : Wires) (places : List ℕ) (j : ℕ) → IsSeated rows w places → length (row_of rows j).ports ≡ length (own_of w j)
row_long rows w places j is = ap length (sym (ports_row rows j)) ∙ is.ports_are.1 j

-- the ports of a row are those that its owner's numbers gather
pub row_gathers : (rows : List PortsView) (w : Wires) (places : List ℕ) (j : ℕ) → IsSeated rows w places → (row_of rows j).ports ≡ gather (rows_view rows w).ports (own_of w j)
row_gathers rows w places j is = sym (ports_row rows j) ∙ row_is (ports_in rows) w (port_view [] [] 0) j is.wired is.ports_are

-- a row of which the ports are others, as many
pub seated_set : (rows : List PortsView) (w : Wires) (places : List ℕ) (j : ℕ) (new : PortsView) → IsSeated rows w places → length new.ports ≡ length (own_of w j) → new.seen ≡ (row_of rows j).seen → IsSeated (set rows j new) w places
seated_set rows w places j new is long same =
    record {
      ports_are = subst (λ l. AreRows l w) (sym (map-set (λ (r : PortsView). r.ports) rows j new)) (rows_kept (ports_in rows) w j new.ports is.ports_are long);
      seen_are = subst (λ l. AreRows l w) (sym (map-set (λ (r : PortsView). r.seen) rows j new)) (rows_kept (seen_in rows) w j new.seen is.seen_are (ap length same ∙ ap length (sym (seen_row rows j)) ∙ is.seen_are.1 j));
      wired = is.wired;
      owners = is.owners;
      tabled = is.tabled;
      places_are = is.places_are;
    }

seen_same : (rows : List PortsView) (j : ℕ) (new : PortsView) → new.seen ≡ (row_of rows j).seen → seen_in (set rows j new) ≡ seen_in rows
seen_same rows j new same =
    map-set (λ (r : PortsView). r.seen) rows j new ∙ ap (set (seen_in rows) j) (same ∙ sym (seen_row rows j)) ∙ set-get_or (seen_in rows) j []

view_made : (ports ports' : List PortView) (seen seen' : List Face) (w : Wires) → ports ≡ ports' → seen ≡ seen' → let x : RowsView = record { ports = ports; seen = seen; wires = w } in let y : RowsView = record { ports = ports'; seen = seen'; wires = w } in x ≡ y
view_made ports ports' seen seen' w e f = cc

pub link_view : (rows : List PortsView) (w : Wires) (places : List ℕ) (j : ℕ) (new : PortsView) → IsSeated rows w places → j < length rows → length new.ports ≡ length (own_of w j) → new.seen ≡ (row_of rows j).seen → rows_view (set rows j new) w ≡ record (rows_view rows w) { ports = scatter (rows_view rows w).ports (own_of w j) new.ports }
link_view rows w places j new is b long same =
    view_made _ _ _ _ w
    (ap (λ l. by_number l w (port_view [] [] 0)) (map-set (λ (r : PortsView). r.ports) rows j new) ∙ row_changed (ports_in rows) w (port_view [] [] 0) j new.ports is.wired (omega (arith, b, length-map rows (λ (r : PortsView). r.ports))) long)
    (ap (λ l. by_number l w no_face) (seen_same rows j new same))

-- one port of a row is another
pub port_set : (rows : List PortsView) (w : Wires) (places : List ℕ) (q j k : ℕ) (x : PortView) (new : PortsView) → IsSeated rows w places → q < length w.owner → j ≡ owner_of w q → k ≡ place q (own_of w (owner_of w q)) → new ≡ record (row_of rows j) { ports = set (row_of rows j).ports k x } → rows_view (set rows j new) w ≡ record (rows_view rows w) { ports = set (rows_view rows w).ports q x }
port_set rows w places q j k x new is b e f g =
    let o = owner_of w q in
    let p = place q (own_of w o) in
    view_made _ _ _ _ w
    (ap (λ l. by_number l w (port_view [] [] 0)) (
    map-set (λ (r : PortsView). r.ports) rows j new
    ∙ ap (λ (r : PortsView). set (ports_in rows) j r.ports) g
    ∙ ap (λ l. set (ports_in rows) j (set l k x)) (sym (ports_row rows j))
    ∙ ap (λ i. set (ports_in rows) i (set (get_or (ports_in rows) i []) k x)) e
    ∙ ap (λ i. set (ports_in rows) o (set (get_or (ports_in rows) o []) i x)) f)
    ∙ one_changed (ports_in rows) w (port_view [] [] 0) q x is.wired is.ports_are b (is.owners q b))
    (ap (λ l. by_number l w no_face) (seen_same rows j new (ap (λ (r : PortsView). r.seen) g)))

-- the port of a number stands in its row
pub port_there : (rows : List PortsView) (w : Wires) (q j k : ℕ) → q < length w.owner → j ≡ owner_of w q → k ≡ place q (own_of w (owner_of w q)) → port_at (row_of rows j).ports k ≡ port_at (rows_view rows w).ports q
port_there rows w q j k b e f =
    ap (λ i. port_at (row_of rows i).ports k) e
    ∙ ap (λ i. port_at (row_of rows (owner_of w q)).ports i) f
    ∙ ap (λ l. port_at l (place q (own_of w (owner_of w q)))) (sym (ports_row rows (owner_of w q)))
    ∙ sym (get-by (ports_in rows) w (port_view [] [] 0) (port_view [] [] 0) q b)

pub place_within : (rows : List PortsView) (w : Wires) (places : List ℕ) (q j k : ℕ) → IsSeated rows w places → q < length w.owner → j ≡ owner_of w q → k ≡ place q (own_of w (owner_of w q)) → k < length (row_of rows j).ports
place_within rows w places q j k is b e f =
    omega (arith, f, place_below q (own_of w (owner_of w q)) (is.wired.found q b), ap (λ i. length (own_of w i)) e, row_long rows w places j is)

pub number_below : (rows : List PortsView) (w : Wires) (v : RowsView) (q : ℕ) → rows_view rows w ≡ v → q < length v.ports → q < length w.owner
number_below rows w v q e b = omega (arith, b, ap (λ (x : RowsView). length x.ports) e, length-by (ports_in rows) w (port_view [] [] 0))

apart_rest : (xs : List ℕ) (n : ℕ) → AllApart xs → n < length xs → Has (drop (suc n) xs) (get_or xs n 0) → ⊥
apart_rest [] n a b h = absurd (omega arith)
apart_rest (x ∷ xs) zero a b h = a.0 h
apart_rest (x ∷ xs) (suc n) a b h = apart_rest xs n a.1 (omega arith) h

-- one port more was lent, the last first
pub lent_one : (old now new : RowsView) (hand_old hand hand_new : PortsView) (own : List ℕ) (left n : ℕ) → left ≡ suc n → left ≤ length own → length own ≡ length hand_old.ports → AllApart own →
    now ≡ record old { ports = scatter old.ports (drop left own) (drop left hand_old.ports) } →
    hand ≡ record hand_old { ports = take left hand_old.ports ++ gather old.ports (drop left own) } →
    new ≡ record now { ports = set now.ports (get_or own n 0) (port_at hand.ports n) } →
    hand_new ≡ record hand { ports = set hand.ports n (port_at now.ports (get_or own n 0)) } →
    (new ≡ record old { ports = scatter old.ports (drop n own) (drop n hand_old.ports) }) × (hand_new ≡ record hand_old { ports = take n hand_old.ports ++ gather old.ports (drop n own) })
lent_one old now new hand_old hand hand_new own left n l b same apart e f g h =
    let none = port_view [] [] 0 in
    let hs = hand_old.ports in
    let q = get_or own n 0 in
    let in_own : n < length own = omega (arith, l, b) in
    let in_hand : n < length hs = omega (arith, in_own, same) in
    let own_is : drop n own ≡ q ∷ drop (suc n) own = drop-cons own n 0 in_own in
    let hs_is : drop n hs ≡ get_or hs n none ∷ drop (suc n) hs = drop-cons hs n none in_hand in
    let e' : now ≡ record old { ports = scatter old.ports (drop (suc n) own) (drop (suc n) hs) } = e ∙ ap (λ k. let x : RowsView = record old { ports = scatter old.ports (drop k own) (drop k hs) } in x) l in
    let f' : hand ≡ record hand_old { ports = take (suc n) hs ++ gather old.ports (drop (suc n) own) } = f ∙ ap (λ k. let x : PortsView = record hand_old { ports = take k hs ++ gather old.ports (drop k own) } in x) l in
    let more : take (suc n) hs ≡ take n hs ++ get_or hs n none ∷ [] = take-suc hs n none in_hand in
    let hand_is : hand.ports ≡ take n hs ++ (get_or hs n none ∷ gather old.ports (drop (suc n) own)) = ap (λ (r : PortsView). r.ports) f' ∙ ap (λ t. t ++ gather old.ports (drop (suc n) own)) more ∙ append_assoc (take n hs) (get_or hs n none ∷ []) (gather old.ports (drop (suc n) own)) in
    let front : length (take n hs) ≡ n = length-take-le n hs (omega arith) in
    let given : port_at hand.ports n ≡ get_or hs n none = ap (λ t. port_at t n) hand_is ∙ get_or_at (take n hs) (get_or hs n none) (gather old.ports (drop (suc n) own)) none n front in
    let taken : port_at now.ports q ≡ port_at old.ports q = ap (λ (v : RowsView). port_at v.ports q) e' ∙ scatter_other old.ports (drop (suc n) own) (drop (suc n) hs) q none (apart_rest own n apart in_own) in (
      g ∙ ap (λ p. let x : RowsView = record now { ports = set now.ports q p } in x) given ∙ ap (λ (v : RowsView). let x : RowsView = record v { ports = set v.ports q (get_or hs n none) } in x) e' ∙ sym (ap (λ k. let x : RowsView = record old { ports = scatter old.ports k (drop n hs) } in x) own_is ∙ ap (λ k. let x : RowsView = record old { ports = scatter old.ports (q ∷ drop (suc n) own) k } in x) hs_is),
      h ∙ ap (λ p. let x : PortsView = record hand { ports = set hand.ports n p } in x) taken
          ∙ ap (λ t. let x : PortsView = record hand { ports = set t n (port_at old.ports q) } in x) hand_is
          ∙ ap (λ t. let x : PortsView = record hand { ports = t } in x) (set_at (take n hs) (get_or hs n none) (gather old.ports (drop (suc n) own)) (port_at old.ports q) n front)
          ∙ ap (λ (s : List Face). let x : PortsView = record { ports = take n hs ++ (port_at old.ports q ∷ gather old.ports (drop (suc n) own)); seen = s } in x) (ap (λ (r : PortsView). r.seen) f')
          ∙ sym (ap (λ k. let x : PortsView = record hand_old { ports = take n hs ++ gather old.ports k } in x) own_is),
    )

-- what was put at some numbers and then replaced there
pub scatter_twice : (ps : List PortView) (own : List ℕ) (a b : List PortView) → length own ≡ length a → length own ≡ length b → scatter (scatter ps own a) own b ≡ scatter ps own b
scatter_twice ps own a b e f =
    same_lists (scatter (scatter ps own a) own b) (scatter ps own b) (length-scatter (scatter ps own a) own b ∙ length-scatter ps own a ∙ sym (length-scatter ps own b))
    (λ k d l. at k d (omega (arith, l, length-scatter (scatter ps own a) own b, length-scatter ps own a)) (has_or_not own k))
  where
    at : (k : ℕ) (d : PortView) → k < length ps → Has own k ⊎ (Has own k → ⊥) → get_or (scatter (scatter ps own a) own b) k d ≡ get_or (scatter ps own b) k d
    at k d l (inl h) = scatter_at (scatter ps own a) own b k d h f (omega (arith, l, length-scatter ps own a)) ∙ sym (scatter_at ps own b k d h f l)
    at k d l (inr n) = scatter_other (scatter ps own a) own b k d n ∙ scatter_other ps own a k d n ∙ sym (scatter_other ps own b k d n)

-- what was put at some numbers is what they gather
pub gather_scatter : (ps : List PortView) (own : List ℕ) (a : List PortView) → AllApart own → length own ≡ length a → ((q : ℕ) → Has own q → q < length ps) → gather (scatter ps own a) own ≡ a
gather_scatter ps own a apart e within =
    same_lists (gather (scatter ps own a) own) a (length-map own (λ q. port_at (scatter ps own a) q) ∙ e)
    (λ k d l. at k d (omega (arith, l, length-map own (λ q. port_at (scatter ps own a) q))))
  where
    gathered : (qs : List PortView) (xs : List ℕ) (k : ℕ) (d : PortView) → k < length xs → get_or (gather qs xs) k d ≡ port_at qs (get_or xs k 0)
    gathered qs [] k d b = absurd (omega arith)
    gathered qs (x ∷ xs) zero d b = refl
    gathered qs (x ∷ xs) (suc k) d b = gathered qs xs k d (omega arith)

    at : (k : ℕ) (d : PortView) → k < length own → get_or (gather (scatter ps own a) own) k d ≡ get_or a k d
    at k d b =
        let q = get_or own k 0 in
        let none = port_view [] [] 0 in
        let has : Has own q = (k, b, refl) in
        gathered (scatter ps own a) own k d b
        ∙ scatter_at ps own a q none has e (within q has)
        ∙ ap (λ i. get_or a i none) (place_is own k apart b)
        ∙ get_or_default a k none d (omega (arith, b, e))

-- what was seen of a number stands in its row
pub seen_there : (rows : List PortsView) (w : Wires) (q j k : ℕ) → q < length w.owner → j ≡ owner_of w q → k ≡ place q (own_of w (owner_of w q)) → face_at (row_of rows j).seen k ≡ face_at (rows_view rows w).seen q
seen_there rows w q j k b e f =
    ap (λ i. face_at (row_of rows i).seen k) e
    ∙ ap (λ i. face_at (row_of rows (owner_of w q)).seen i) f
    ∙ ap (λ l. face_at l (place q (own_of w (owner_of w q)))) (sym (seen_row rows (owner_of w q)))
    ∙ sym (get-by (seen_in rows) w no_face no_face q b)

-- one port is settled
pub seen_set : (rows : List PortsView) (w : Wires) (places : List ℕ) (q j k : ℕ) (x : Face) (new : PortsView) → IsSeated rows w places → q < length w.owner → j ≡ owner_of w q → k ≡ place q (own_of w (owner_of w q)) → new ≡ record (row_of rows j) { seen = set (row_of rows j).seen k x } → rows_view (set rows j new) w ≡ record (rows_view rows w) { seen = set (rows_view rows w).seen q x }
seen_set rows w places q j k x new is b e f g =
    let o = owner_of w q in
    view_made _ _ _ _ w
    (ap (λ l. by_number l w (port_view [] [] 0)) (map-set (λ (r : PortsView). r.ports) rows j new ∙ ap (set (ports_in rows) j) (ap (λ (r : PortsView). r.ports) g ∙ sym (ports_row rows j)) ∙ set-get_or (ports_in rows) j []))
    (ap (λ l. by_number l w no_face) (
    map-set (λ (r : PortsView). r.seen) rows j new
    ∙ ap (λ (r : PortsView). set (seen_in rows) j r.seen) g
    ∙ ap (λ l. set (seen_in rows) j (set l k x)) (sym (seen_row rows j))
    ∙ ap (λ i. set (seen_in rows) i (set (get_or (seen_in rows) i []) k x)) e
    ∙ ap (λ i. set (seen_in rows) o (set (get_or (seen_in rows) o []) i x)) f)
    ∙ one_changed (seen_in rows) w no_face q x is.wired is.seen_are b (is.owners q b))

pub seated_settled : (rows : List PortsView) (w : Wires) (places : List ℕ) (j k : ℕ) (x : Face) (new : PortsView) → IsSeated rows w places → new ≡ record (row_of rows j) { seen = set (row_of rows j).seen k x } → IsSeated (set rows j new) w places
seated_settled rows w places j k x new is e =
    record {
      ports_are = subst (λ l. AreRows l w) (sym (map-set (λ (r : PortsView). r.ports) rows j new)) (rows_kept (ports_in rows) w j new.ports is.ports_are (ap (λ (r : PortsView). length r.ports) e ∙ row_long rows w places j is));
      seen_are = subst (λ l. AreRows l w) (sym (map-set (λ (r : PortsView). r.seen) rows j new)) (rows_kept (seen_in rows) w j new.seen is.seen_are (ap (λ (r : PortsView). length r.seen) e ∙ length-set (row_of rows j).seen k x ∙ ap length (sym (seen_row rows j)) ∙ is.seen_are.1 j));
      wired = is.wired;
      owners = is.owners;
      tabled = is.tabled;
      places_are = is.places_are;
    }

-- the places of a row that show what was seen of them, by number
pub no_change : (rows : List PortsView) (w : Wires) (places : List ℕ) (j from below : ℕ) → IsSeated rows w places → below ≤ length (own_of w j) → NoChange (row_of rows j) from below → NoChangeAt (rows_view rows w) (own_of w j) from below
no_change rows w places j from below is b none k f c =
    let in_own : k < length (own_of w j) = omega (arith, b, c) in
    row_at (seen_in rows) w no_face j k is.wired in_own
    ∙ ap (λ l. face_at l k) (seen_row rows j)
    ∙ none k f c
    ∙ sym (ap face_of (row_at (ports_in rows) w (port_view [] [] 0) j k is.wired in_own ∙ ap (λ l. port_at l k) (ports_row rows j)))

pub none_touched : (o : Option ℕ) (rows : List PortsView) (w : Wires) (places : List ℕ) (j from : ℕ) (row : PortsView) (v : RowsView) → IsSeated rows w places → row ≡ row_of rows j → rows_view rows w ≡ v → IfNone o (NoChange row from (length row.ports)) → IfNone o (NoChangeAt v (own_of v.wires j) from (length (own_of v.wires j)))
none_touched (Some k) rows w places j from row v is e f none = tt
none_touched None rows w places j from row v is e f none =
    subst (λ (x : RowsView). NoChangeAt x (own_of x.wires j) from (length (own_of x.wires j))) f
    (no_change rows w places j from (length (own_of w j)) is (omega arith) (subst (λ n. NoChange (row_of rows j) from n) (row_long rows w places j is) (subst (λ (r : PortsView). NoChange r from (length r.ports)) e none)))

pub next_at : (o : Option ℕ) (rows : List PortsView) (w : Wires) (places : List ℕ) (j from : ℕ) (row : PortsView) (v : RowsView) → IsSeated rows w places → row ≡ row_of rows j → rows_view rows w ≡ v → IfSome o (λ k. IsNextTouched row from k) → IfSome o (λ k. IsNextAt v (own_of v.wires j) from k)
next_at None rows w places j from row v is e f next = tt
next_at (Some k) rows w places j from row v is e f next =
    let b : k < length (own_of w j) = omega (arith, next.within, ap (λ (r : PortsView). length r.ports) e, row_long rows w places j is) in
    subst (λ (x : RowsView). IsNextAt x (own_of x.wires j) from k) f (record {
      not_below = next.not_below;
      within = b;
      before = no_change rows w places j from k is (omega (arith, b)) (subst (λ (r : PortsView). NoChange r from k) e next.before);
    })

-- where the port of a number stands: its link, its place in that link's row, and this row
pub record IsSeat (rows : List PortsView) (w : Wires) (v : RowsView) (q j k : ℕ) (row : PortsView) : Type 0 where
  pub number : q < length w.owner
  pub owner : j ≡ owner_of w q
  pub place_is : k ≡ place q (own_of w (owner_of w q))
  pub row_there : j < length rows
  pub row_is : row ≡ row_of rows j
  pub within : k < length row.ports
  pub port : port_at row.ports k ≡ port_at v.ports q
  pub seen : face_at row.seen k ≡ face_at v.seen q

pub seat_row : {rows : List PortsView} {w : Wires} {places : List ℕ} {v : RowsView} {q j : ℕ} → IsSeated rows w places → rows_view rows w ≡ v → q < length v.ports → j ≡ owner_of w q → j < length rows
seat_row {rows} {w} {places} {v} {q} {j} is e b o =
    let n : q < length w.owner = number_below rows w v q e b in
    link_below rows w places j is (omega (arith, is.owners q n, o))

pub seat : {rows : List PortsView} {w : Wires} {places table : List ℕ} {v : RowsView} {q j k : ℕ} {row : PortsView} → IsSeated rows w places → rows_view rows w ≡ v → q < length v.ports → j ≡ owner_of w q → table ≡ places → k ≡ get_or table q 0 → row ≡ get_or rows j row → IsSeat rows w v q j k row
seat {rows} {w} {places} {table} {v} {q} {j} {k} {row} is e b o t p r =
    let n : q < length w.owner = number_below rows w v q e b in
    let at : k ≡ place q (own_of w (owner_of w q)) = p ∙ ap (λ (l : List ℕ). get_or l q 0) t ∙ is.places_are q n in
    let here : j < length rows = seat_row is e b o in
    let was : row ≡ row_of rows j = get_or_read rows j row here r no_row in
    record {
      number = n;
      owner = o;
      place_is = at;
      row_there = here;
      row_is = was;
      within = omega (arith, place_within rows w places q j k is n o at, ap (λ (x : PortsView). length x.ports) was);
      port = ap (λ (x : PortsView). port_at x.ports k) was ∙ port_there rows w q j k n o at ∙ ap (λ (x : RowsView). port_at x.ports q) e;
      seen = ap (λ (x : PortsView). face_at x.seen k) was ∙ seen_there rows w q j k n o at ∙ ap (λ (x : RowsView). face_at x.seen q) e;
    }

-- the rows after one row is another, and what they are by number
pub record IsChanged (rows : List PortsView) (w : Wires) (places : List ℕ) (j : ℕ) (new : PortsView) (v : RowsView) : Type 0 where
  pub seated : IsSeated (set rows j new) w places
  pub view : rows_view (set rows j new) w ≡ v

-- another port stands at a seat
pub port_put : {rows : List PortsView} {w : Wires} {places : List ℕ} {v : RowsView} {q j k : ℕ} {row : PortsView} → IsSeated rows w places → rows_view rows w ≡ v → IsSeat rows w v q j k row → (p : PortView) (new : PortsView) → new ≡ record row { ports = set row.ports k p } → IsChanged rows w places j new (record v { ports = set v.ports q p })
port_put {rows} {w} {places} {v} {q} {j} {k} {row} is e s p new f =
    record {
      seated =
          seated_set rows w places j new is
          (ap (λ (r : PortsView). length r.ports) f ∙ length-set row.ports k p ∙ ap (λ (r : PortsView). length r.ports) s.row_is ∙ row_long rows w places j is)
          (ap (λ (r : PortsView). r.seen) f ∙ ap (λ (r : PortsView). r.seen) s.row_is);
      view =
          port_set rows w places q j k p new is s.number s.owner s.place_is
          (f ∙ ap (λ (r : PortsView). let x : PortsView = record r { ports = set r.ports k p } in x) s.row_is)
          ∙ ap (λ (x : RowsView). let y : RowsView = record x { ports = set x.ports q p } in y) e;
    }

-- the port at a seat has been seen as it is
pub seat_settled : {rows : List PortsView} {w : Wires} {places : List ℕ} {v : RowsView} {q j k : ℕ} {row : PortsView} → IsSeated rows w places → rows_view rows w ≡ v → IsSeat rows w v q j k row → (new : PortsView) → new ≡ record row { seen = set row.seen k (face_of (port_at row.ports k)) } → IsChanged rows w places j new (record v { seen = set v.seen q (face_of (port_at v.ports q)) })
seat_settled {rows} {w} {places} {v} {q} {j} {k} {row} is e s new f =
    let x = face_of (port_at row.ports k) in
    let g : new ≡ record (row_of rows j) { seen = set (row_of rows j).seen k x } = f ∙ ap (λ (r : PortsView). let y : PortsView = record r { seen = set r.seen k x } in y) s.row_is in
    record {
      seated = seated_settled rows w places j k x new is g;
      view =
          seen_set rows w places q j k x new is s.number s.owner s.place_is g
          ∙ ap (λ (r : RowsView). let y : RowsView = record r { seen = set r.seen q x } in y) e
          ∙ ap (λ p. let y : RowsView = record v { seen = set v.seen q (face_of p) } in y) s.port;
    }

-- the row of a link, by the link's number
pub record IsRowOf (rows : List PortsView) (w : Wires) (v : RowsView) (j : ℕ) (row : PortsView) : Type 0 where
  pub here : j < length rows
  pub row_is : row ≡ row_of rows j
  pub long : length row.ports ≡ length (own_of w j)
  pub gathers : row.ports ≡ gather v.ports (own_of v.wires j)

pub link_row : {rows : List PortsView} {w : Wires} {places : List ℕ} {v : RowsView} {j : ℕ} → IsSeated rows w places → rows_view rows w ≡ v → j < length v.wires.own → j < length rows
link_row {rows} {w} {places} {v} {j} is e b = link_below rows w places j is (omega (arith, b, ap (λ (x : RowsView). length x.wires.own) e))

pub row_found : {rows : List PortsView} {w : Wires} {places : List ℕ} {v : RowsView} {j : ℕ} {row : PortsView} → IsSeated rows w places → rows_view rows w ≡ v → j < length v.wires.own → row ≡ get_or rows j row → IsRowOf rows w v j row
row_found {rows} {w} {places} {v} {j} {row} is e b r =
    let here : j < length rows = link_row is e b in
    let was : row ≡ row_of rows j = get_or_read rows j row here r no_row in
    record {
      here = here;
      row_is = was;
      long = ap (λ (x : PortsView). length x.ports) was ∙ row_long rows w places j is;
      gathers = ap (λ (x : PortsView). x.ports) was ∙ row_gathers rows w places j is ∙ ap (λ (x : RowsView). gather x.ports (own_of x.wires j)) e;
    }

-- a row is another as long, with what was seen of it
pub row_put : {rows : List PortsView} {w : Wires} {places : List ℕ} {v : RowsView} {j : ℕ} → IsSeated rows w places → rows_view rows w ≡ v → j < length rows → (new : PortsView) → length new.ports ≡ length (own_of w j) → length new.seen ≡ length (own_of w j) → IsChanged rows w places j new (with_row v j new)
row_put {rows} {w} {places} {v} {j} is e here new long seen =
    record {
      seated = record {
        ports_are = subst (λ l. AreRows l w) (sym (map-set (λ (r : PortsView). r.ports) rows j new)) (rows_kept (ports_in rows) w j new.ports is.ports_are long);
        seen_are = subst (λ l. AreRows l w) (sym (map-set (λ (r : PortsView). r.seen) rows j new)) (rows_kept (seen_in rows) w j new.seen is.seen_are seen);
        wired = is.wired;
        owners = is.owners;
        tabled = is.tabled;
        places_are = is.places_are;
      };
      view =
          view_made _ _ _ _ w
          (ap (λ l. by_number l w (port_view [] [] 0)) (map-set (λ (r : PortsView). r.ports) rows j new) ∙ row_changed (ports_in rows) w (port_view [] [] 0) j new.ports is.wired (omega (arith, here, length-map rows (λ (r : PortsView). r.ports))) long)
          (ap (λ l. by_number l w no_face) (map-set (λ (r : PortsView). r.seen) rows j new) ∙ row_changed (seen_in rows) w no_face j new.seen is.wired (omega (arith, here, length-map rows (λ (r : PortsView). r.seen))) seen)
          ∙ ap (λ (x : RowsView). with_row x j new) e;
    }

-- a row is what its owner's numbers gather, with what was seen of it
pub row_gone : {rows : List PortsView} {w : Wires} {places : List ℕ} {v : RowsView} {j : ℕ} {row : PortsView} → IsSeated rows w places → rows_view rows w ≡ v → IsRowOf rows w v j row → row ≡ row_of_link v j
row_gone {rows} {w} {places} {v} {j} {row} is e r =
    row_made row.ports _ row.seen _ r.gathers
    (ap (λ (x : PortsView). x.seen) r.row_is
    ∙ sym (seen_row rows j)
    ∙ row_is (seen_in rows) w no_face j is.wired is.seen_are
    ∙ ap (λ (x : RowsView). map (λ q. face_at x.seen q) (own_of x.wires j)) e)
  where
    row_made : (a b : List PortView) (c d : List Face) → a ≡ b → c ≡ d → let x : PortsView = record { ports = a; seen = c } in let y : PortsView = record { ports = b; seen = d } in x ≡ y
    row_made a b c d f g = cc
