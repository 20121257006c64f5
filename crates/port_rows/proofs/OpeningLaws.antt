-- Rows that are filled by number.
use Rattle.std.proofs.Common.{◌≡◌, ℕ, ◌+◌, ◌<◌, ◌≤◌, ◌⊎◌, inl, inr, List, [], ◌∷◌, ◌++◌, length, take, drop, get_or, set, map, sym, ◌∙◌, ap, subst, arith, refl, zero, suc}
use Rattle.std.proofs.lemmas.List.{length-map, same_lists, get_or_default, get_or_past, get_or-set_same, get_or-set_other, take-append-le, take_all}
use Rattle.std.proofs.lemmas.Bool.{cases_lt}
use Rattle.port_msg.specs.PortView.{PortView, port_view}
use Rattle.port_row.specs.declared.face.Face.{Face}
use Rattle.port_row.specs.Row.{PortsView, no_face, port_at, face_at, face_of}
use Rattle.tick_law.specs.Wires.{Wires, own_of, owner_of, Has, AllApart, Wired}
use Rattle.tick_law.specs.Pass.{place}
use Rattle.port_rows.specs.Rows.{RowsView, AreRows, ports_in, seen_in}
use Rattle.port_rows.specs.Opening.{AreLong}
use Rattle.port_rows.proofs.RowsLaws.{place_is, ports_row, seen_row}

map_at : {A B : Type 0} (f : A → B) (xs : List A) (k : ℕ) (d : A) → get_or (map f xs) k (f d) ≡ f (get_or xs k d)
map_at f [] k d = refl
map_at f (x ∷ xs) zero d = refl
map_at f (x ∷ xs) (suc k) d = map_at f xs k d

pub view_of : (now : RowsView) (ports : List PortView) (seen : List Face) (w : Wires) → now.ports ≡ ports → now.seen ≡ seen → now.wires ≡ w → let x : RowsView = record { ports = ports; seen = seen; wires = w } in now ≡ x
view_of now ports seen w e f g =
    ap (λ (l : List PortView). let x : RowsView = record { ports = l; seen = now.seen; wires = now.wires } in x) e
    ∙ ap (λ (l : List Face). let x : RowsView = record { ports = ports; seen = l; wires = now.wires } in x) f
    ∙ ap (λ (l : Wires). let x : RowsView = record { ports = ports; seen = seen; wires = l } in x) g

-- all numbers have their ports, and are settled
pub filled_all : (now : RowsView) (w : Wires) (all : List PortView) → now.wires ≡ w → length now.ports ≡ length all → length now.seen ≡ length all → ((k : ℕ) → k < length all → port_at now.ports k ≡ port_at all k) → ((k : ℕ) → k < length all → face_at now.seen k ≡ face_of (port_at all k)) → let x : RowsView = record { ports = all; seen = map face_of all; wires = w } in now ≡ x
filled_all now w all g long seen_long done seen =
    view_of now all (map face_of all) w
    (same_lists now.ports all long (λ k e b. let l : k < length all = omega (arith, b, long) in get_or_default now.ports k e (port_view [] [] 0) b ∙ done k l ∙ sym (get_or_default all k e (port_view [] [] 0) l)))
    (same_lists now.seen (map face_of all) (seen_long ∙ sym (length-map all face_of)) (λ k e b. let l : k < length all = omega (arith, b, seen_long) in get_or_default now.seen k e no_face b ∙ seen k l ∙ sym (map_at face_of all k (port_view [] [] 0)) ∙ sym (get_or_default (map face_of all) k e no_face (omega (arith, l, length-map all face_of)))))
    g

-- the place of one number more is noted
pub noted_more : (own places : List ℕ) (k : ℕ) → AllApart own → k < length own → get_or own k 0 < length places → ((j : ℕ) → j < k → get_or places (get_or own j 0) 0 ≡ j) → (j : ℕ) → j < k + 1 → get_or (set places (get_or own k 0) k) (get_or own j 0) 0 ≡ j
noted_more own places k apart b here was j l = at (cases_lt j k)
  where
    at : (j < k) ⊎ (k ≤ j) → get_or (set places (get_or own k 0) k) (get_or own j 0) 0 ≡ j
    at (inl lt) =
        let other : get_or own j 0 ≡ get_or own k 0 → ⊥ = λ e. (let f : j ≡ k = sym (place_is own j apart (omega (arith, lt, b))) ∙ ap (λ q. place q own) e ∙ place_is own k apart b in absurd (omega (arith, lt, f))) in
        get_or-set_other places (get_or own k 0) (get_or own j 0) k 0 other ∙ was j lt
    at (inr ge) =
        let e : j ≡ k = omega (arith, l, ge) in
        ap (λ i. get_or (set places (get_or own k 0) k) (get_or own i 0) 0) e ∙ get_or-set_same places (get_or own k 0) k 0 here ∙ sym e

-- the places of one owner more are noted
pub listed_more : (w : Wires) (n j : ℕ) (old new own : List ℕ) → Wired w n → own ≡ own_of w j → ((k : ℕ) → k < length own → get_or new (get_or own k 0) 0 ≡ k) → ((q : ℕ) → (Has own q → ⊥) → get_or new q 0 ≡ get_or old q 0) → ((i : ℕ) → i < j → (k : ℕ) → k < length (own_of w i) → get_or old (get_or (own_of w i) k 0) 0 ≡ k) → (i : ℕ) → i < j + 1 → (k : ℕ) → k < length (own_of w i) → get_or new (get_or (own_of w i) k 0) 0 ≡ k
listed_more w n j old new own wired mine here others was i l k b = at (cases_lt i j)
  where
    at : (i < j) ⊎ (j ≤ i) → get_or new (get_or (own_of w i) k 0) 0 ≡ k
    at (inl lt) =
        let q = get_or (own_of w i) k 0 in
        let no : Has own q → ⊥ = λ h. (let f : i ≡ j = sym (wired.listed i q (k, b, refl)) ∙ wired.listed j q (subst (λ x. Has x q) mine h) in absurd (omega (arith, lt, f))) in
        others q no ∙ was i lt k b
    at (inr ge) =
        let e : own_of w i ≡ own = ap (own_of w) (let z : i ≡ j = omega (arith, l, ge) in z) ∙ sym mine in
        ap (λ x. get_or new (get_or x k 0) 0) e ∙ here k (omega (arith, b, ap (λ x. length x) e))

-- a number's place is where it stands
pub noted_place : (w : Wires) (n q : ℕ) (places : List ℕ) → Wired w n → q < n → ((k : ℕ) → k < length (own_of w (owner_of w q)) → get_or places (get_or (own_of w (owner_of w q)) k 0) 0 ≡ k) → get_or places q 0 ≡ place q (own_of w (owner_of w q))
noted_place w n q places wired b noted =
    let own = own_of w (owner_of w q) in
    let has : Has own q = wired.found q b in
    ap (λ x. get_or places x 0) (sym has.2) ∙ noted has.0 has.1 ∙ sym (place_is own has.0 (wired.apart (owner_of w q)) has.1) ∙ ap (λ x. place x own) has.2

pub rows_are : (rows : List PortsView) (w : Wires) → AreLong rows w (length w.own) → AreRows (ports_in rows) w × AreRows (seen_in rows) w
rows_are rows w long = (
  (length-map rows (λ (r : PortsView). r.ports) ∙ long.all, λ j. ports_at j (cases_lt j (length w.own))),
  (length-map rows (λ (r : PortsView). r.seen) ∙ long.all, λ j. seen_at j (cases_lt j (length w.own))),
)
  where
    ports_at : (j : ℕ) → (j < length w.own) ⊎ (length w.own ≤ j) → length (get_or (ports_in rows) j []) ≡ length (own_of w j)
    ports_at j (inl b) = ap length (ports_row rows j) ∙ long.ports j b
    ports_at j (inr n) = ap length (get_or_past (ports_in rows) j [] (omega (arith, n, long.all, length-map rows (λ (r : PortsView). r.ports)))) ∙ sym (ap length (get_or_past w.own j [] n))

    seen_at : (j : ℕ) → (j < length w.own) ⊎ (length w.own ≤ j) → length (get_or (seen_in rows) j []) ≡ length (own_of w j)
    seen_at j (inl b) = ap length (seen_row rows j) ∙ long.seen j b
    seen_at j (inr n) = ap length (get_or_past (seen_in rows) j [] (omega (arith, n, long.all, length-map rows (λ (r : PortsView). r.seen)))) ∙ sym (ap length (get_or_past w.own j [] n))

-- what a slice of a whole list writes back
pub written : {A : Type 0} (new old : List A) (n : ℕ) → length new ≡ length old → n ≡ length old → take n (new ++ drop (length new) old) ≡ new
written new old n same all = take-append-le n new (drop (length new) old) (omega (arith, same, all)) ∙ take_all n new (omega (arith, same, all))
