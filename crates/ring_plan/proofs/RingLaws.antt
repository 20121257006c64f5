-- The plan of a ring is a plan.
use Rattle.std.proofs.Common.{◌≡◌, ℕ, ◌<◌, ◌≤◌, List, [], ◌∷◌, ◌++◌, length, take, drop, map, get_or, zero, suc, sym, ◌∙◌, ap, subst, arith, refl, length-append}
use Rattle.std.specs.Prelude.{Some, Bool, true, false, slice_get, slice_index_or, nat_lt, ◌⊎◌}
use Rattle.std.proofs.Common.{inl, inr}
use Rattle.std.proofs.lemmas.Bool.Decides.{nat_tests}
use Rattle.std.proofs.lemmas.List.{map-append}
use Rattle.tick_law.specs.Wires.{Wires, Wired, own_of, owner_of, Has, AllApart}
use Rattle.tick_law.specs.PlanView.{PlanView, IsPlan, part_wires, link_wires}
use Rattle.tick_law.specs.declared.port_plan.PortPlan.{PortPlan}
use Rattle.sim_base.specs.declared.numbers.PortNo.{PortNo}
use Rattle.part_kind.specs.Part.{part}
use Rattle.part_kind.specs.LinkKind.{link}
use Rattle.part_kind.specs.declared.part.Part.{Part}
use Rattle.part_kind.specs.declared.part.Part.TheVariants.{Relay}
use Rattle.part_kind.specs.declared.link_kind.LinkKind.{LinkKind}
use Rattle.part_kind.specs.declared.link_kind.LinkKind.TheVariants.{Direct}
use Rattle.ring_plan.specs.Ring.{up_to, port_no, ring_relay, ring_link, ring_port, ring_plan}

length-map : {A B : Type 0} (f : A → B) (xs : List A) → length (map f xs) ≡ length xs
length-map f [] = refl
length-map f (x ∷ xs) = ap suc (length-map f xs)

pub length-up_to : (n : ℕ) → length (up_to n) ≡ n
length-up_to zero = refl
length-up_to (suc n) = (let a = length-append (up_to n) (n ∷ []) in let r = length-up_to n in let z : length (up_to n ++ n ∷ []) ≡ suc n = omega (arith, a, r) in z)

pub length-mapped : {B : Type 0} (f : ℕ → B) (n : ℕ) → length (map f (up_to n)) ≡ n
length-mapped f n = length-map f (up_to n) ∙ length-up_to n

get_last : {A : Type 0} (xs : List A) (x d : A) (k : ℕ) → k ≡ length xs → get_or (xs ++ x ∷ []) k d ≡ x
get_last [] x d zero e = refl
get_last [] x d (suc k) e = absurd (omega arith)
get_last (y ∷ ys) x d zero e = absurd (omega arith)
get_last (y ∷ ys) x d (suc k) e = get_last ys x d k (omega arith)

get_front : {A : Type 0} (xs ys : List A) (d : A) (k : ℕ) → k < length xs → get_or (xs ++ ys) k d ≡ get_or xs k d
get_front [] ys d k b = absurd (omega arith)
get_front (x ∷ xs) ys d zero b = refl
get_front (x ∷ xs) ys d (suc k) b = get_front xs ys d k (omega arith)

get_past : {A : Type 0} (xs : List A) (d : A) (k : ℕ) → length xs ≤ k → get_or xs k d ≡ d
get_past [] d k b = refl
get_past (x ∷ xs) d zero b = absurd (omega arith)
get_past (x ∷ xs) d (suc k) b = get_past xs d k (omega arith)

one_below : (k n : ℕ) → k < suc n → (k < n) ⊎ (k ≡ n)
one_below k n b = at (nat_lt k n) refl
  where
    at : (x : Bool) → nat_lt k n ≡ x → (k < n) ⊎ (k ≡ n)
    at true e = inl (grind (arith, nat_tests))
    at false e = inr (let g : n ≤ k = grind (arith, nat_tests) in omega arith)

-- the item of number k is that of k
pub get-mapped : {B : Type 0} (f : ℕ → B) (n k : ℕ) (d : B) → k < n → get_or (map f (up_to n)) k d ≡ f k
get-mapped f zero k d b = absurd (omega arith)
get-mapped {B} f (suc n) k d b = ap (λ l. get_or l k d) (map-append f (up_to n) (n ∷ [])) ∙ at (one_below k n b) (λ l. get-mapped f n k d l)
  where
    at : (k < n) ⊎ (k ≡ n) → (k < n → get_or (map f (up_to n)) k d ≡ f k) → get_or (map f (up_to n) ++ f n ∷ []) k d ≡ f k
    at (inl l) rest = get_front (map f (up_to n)) (f n ∷ []) d k (let m = length-mapped f n in omega (arith, l, m)) ∙ rest l
    at (inr e) rest = get_last (map f (up_to n)) (f n) d k (e ∙ sym (length-mapped f n)) ∙ ap f (sym e)

get_here : {A : Type 0} (xs : List A) (k : ℕ) (x d : A) → slice_get xs k ≡ Some x → get_or xs k d ≡ x
get_here [] k x d e = absurd (cc)
get_here (y ∷ ys) zero x d e = cc
get_here (y ∷ ys) (suc k) x d e = get_here ys k x d e

below_some : {A : Type 0} (xs : List A) (k : ℕ) (x : A) → slice_get xs k ≡ Some x → k < length xs
below_some [] k x e = absurd (cc)
below_some (y ∷ ys) zero x e = omega arith
below_some (y ∷ ys) (suc k) x e = (let b = below_some ys k x e in omega (arith, b))

-- what stands at number k of a mapped list is that of k
got_mapped : {B : Type 0} (f : ℕ → B) (n k : ℕ) (x : B) → slice_get (map f (up_to n)) k ≡ Some x → (k < n) × (x ≡ f k)
got_mapped f n k x e =
    let b : k < n = (let l = below_some (map f (up_to n)) k x e in let m = length-mapped f n in omega (arith, l, m)) in
    (b, sym (get_here (map f (up_to n)) k x x e) ∙ get-mapped f n k x b)

get-up_to : (n k : ℕ) → k < n → slice_index_or (up_to n) k 0 ≡ k
get-up_to zero k b = absurd (omega arith)
get-up_to (suc n) k b = at (one_below k n b) (λ l. get-up_to n k l)
  where
    at : (k < n) ⊎ (k ≡ n) → (k < n → slice_index_or (up_to n) k 0 ≡ k) → slice_index_or (up_to n ++ n ∷ []) k 0 ≡ k
    at (inl l) rest = get_front (up_to n) (n ∷ []) 0 k (let m = length-up_to n in omega (arith, l, m)) ∙ rest l
    at (inr e) rest = get_last (up_to n) n 0 k (e ∙ sym (length-up_to n)) ∙ sym e

has_up_to : (n k : ℕ) → k < n → Has (up_to n) k
has_up_to n k b = (k, (let l = length-up_to n in omega (arith, l, b)), get-up_to n k b)

has_below : (n k : ℕ) → Has (up_to n) k → k < n
has_below zero k h = absurd (omega (arith, h.1))
has_below (suc n) k (j, l, e) = at (one_below j n (let m = length-up_to (suc n) in omega (arith, l, m))) (λ h. has_below n k h)
  where
    at : (j < n) ⊎ (j ≡ n) → (Has (up_to n) k → k < n) → k < suc n
    at (inl b) rest =
        let m = length-up_to n in
        let within : j < length (up_to n) = omega (arith, b, m) in
        let r = rest (j, within, sym (get_front (up_to n) (n ∷ []) 0 j within) ∙ e) in omega (arith, r)
    at (inr b) rest = let f : n ≡ k = sym (get_last (up_to n) n 0 j (b ∙ sym (length-up_to n))) ∙ e in omega (arith, f)

apart_last : (xs : List ℕ) (x : ℕ) → AllApart xs → (Has xs x → ⊥) → AllApart (xs ++ x ∷ [])
apart_last [] x a n = ((λ h. absurd (omega (arith, h.1))), tt)
apart_last (y ∷ ys) x a n = ((λ h. either y (has_end ys y h)), apart_last ys x a.1 (λ (j, l, e). n (suc j, omega arith, e)))
  where
    has_end : (zs : List ℕ) (y : ℕ) → Has (zs ++ x ∷ []) y → Has zs y ⊎ (y ≡ x)
    has_end [] y (zero, l, e) = inr (sym e)
    has_end [] y (suc j, l, e) = absurd (omega arith)
    has_end (z ∷ zs) y (zero, l, e) = inl (zero, omega arith, e)
    has_end (z ∷ zs) y (suc j, l, e) = more (has_end zs y (j, omega arith, e))
      where
        more : Has zs y ⊎ (y ≡ x) → Has (z ∷ zs) y ⊎ (y ≡ x)
        more (inl (i, m, f)) = inl (suc i, omega arith, f)
        more (inr f) = inr f

    either : (q : ℕ) → Has ys y ⊎ (y ≡ x) → ⊥
    either q (inl h) = a.0 h
    either q (inr e) = n (zero, omega arith, e)

apart_up_to : (n : ℕ) → AllApart (up_to n)
apart_up_to zero = tt
apart_up_to (suc n) = apart_last (up_to n) n (apart_up_to n) (λ h. let b = has_below n n h in omega (arith, b))

take_front : {A : Type 0} (xs ys : List A) (n : ℕ) → n ≡ length xs → take n (xs ++ ys) ≡ xs
take_front [] ys zero e = refl
take_front [] ys (suc n) e = absurd (omega arith)
take_front (x ∷ xs) ys zero e = absurd (omega arith)
take_front (x ∷ xs) ys (suc n) e = ap (λ l. x ∷ l) (take_front xs ys n (omega arith))

drop_front : {A : Type 0} (xs ys : List A) (n : ℕ) → n ≡ length xs → drop n (xs ++ ys) ≡ ys
drop_front [] ys zero e = refl
drop_front [] ys (suc n) e = absurd (omega arith)
drop_front (x ∷ xs) ys zero e = absurd (omega arith)
drop_front (x ∷ xs) ys (suc n) e = drop_front xs ys n (omega arith)

-- each relay has the port of its number
part_wires_of : ℕ → Wires
part_wires_of n = record { own = map (λ i. i ∷ []) (up_to n); owner = map (λ i. i) (up_to n) }

-- the link has them all
link_wires_of : ℕ → Wires
link_wires_of n = record { own = up_to n ∷ []; owner = map (λ i. 0) (up_to n) }

map_map : {A B C : Type 0} (f : B → C) (g : A → B) (xs : List A) → map f (map g xs) ≡ map (λ x. f (g x)) xs
map_map f g [] = refl
map_map f g (x ∷ xs) = ap (λ l. f (g x) ∷ l) (map_map f g xs)

wires_is : (a b : List (List ℕ)) (c d : List ℕ) → a ≡ b → c ≡ d → let x : Wires = record { own = a; owner = c } in let y : Wires = record { own = b; owner = d } in x ≡ y
wires_is a b c d e f = cc

parts_count : (n until : ℕ) → length (ring_plan n until).parts ≡ n
parts_count n until = length-mapped (λ i. Relay (ring_relay n i)) n

part_wires_are : (n until : ℕ) → part_wires (ring_plan n until) ≡ part_wires_of n
unfolding part_wires_of
part_wires_are n until = wires_is _ _ _ _
    (take_front (map (λ i. i ∷ []) (up_to n)) (up_to n ∷ []) (length (ring_plan n until).parts) (parts_count n until ∙ sym (length-mapped (λ i. i ∷ []) n)))
    (map_map (λ (p : PortPlan). p.part.0) ring_port (up_to n))

link_wires_are : (n until : ℕ) → link_wires (ring_plan n until) ≡ link_wires_of n
unfolding link_wires_of
link_wires_are n until = wires_is _ _ _ _
    (drop_front (map (λ i. i ∷ []) (up_to n)) (up_to n ∷ []) (length (ring_plan n until).parts) (parts_count n until ∙ sym (length-mapped (λ i. i ∷ []) n)))
    (map_map (λ (p : PortPlan). p.link.0) ring_port (up_to n))

own_relay : (n i : ℕ) → i < n → own_of (part_wires_of n) i ≡ i ∷ []
unfolding part_wires_of
own_relay n i b = get-mapped (λ j. j ∷ []) n i [] b

has_one : (q k : ℕ) → Has (q ∷ []) k → q ≡ k
has_one q k (zero, l, e) = e
has_one q k (suc j, l, e) = absurd (omega arith)

relay_has : (n i q : ℕ) → Has (own_of (part_wires_of n) i) q → (i < n) × (i ≡ q)
unfolding part_wires_of
relay_has n i q h = at (nat_lt i n) refl
  where
    at : (x : Bool) → nat_lt i n ≡ x → (i < n) × (i ≡ q)
    at true e = let b : i < n = grind (arith, nat_tests) in (b, has_one i q (subst (λ l. Has l q) (own_relay n i b) h))
    at false e =
        let g : n ≤ i = grind (arith, nat_tests) in
        let none : own_of (part_wires_of n) i ≡ [] = get_past (map (λ j. j ∷ []) (up_to n)) [] i (let m = length-mapped (λ j. j ∷ []) n in omega (arith, m, g)) in
        absurd (let f = subst (λ l. Has l q) none h in omega (arith, f.1))

part_owner : (n q : ℕ) → q < n → owner_of (part_wires_of n) q ≡ q
unfolding part_wires_of
part_owner n q b = get-mapped (λ i. i) n q 0 b

part_wired : (n : ℕ) → Wired (part_wires_of n) n
unfolding part_wires_of
part_wired n = record {
  listed = λ i q h. (let r = relay_has n i q h in part_owner n q (omega (arith, r.0, r.1)) ∙ sym r.1);
  within = λ i q h. (let r = relay_has n i q h in omega (arith, r.0, r.1));
  found = λ q b. subst (λ j. Has (own_of (part_wires_of n) j) q) (sym (part_owner n q b)) (subst (λ l. Has l q) (sym (own_relay n q b)) (zero, omega arith, refl));
  apart = λ i. apart_one i (nat_lt i n) refl;
}
  where
    apart_one : (i : ℕ) (x : Bool) → nat_lt i n ≡ x → AllApart (own_of (part_wires_of n) i)
    apart_one i true e = let b : i < n = grind (arith, nat_tests) in subst AllApart (sym (own_relay n i b)) ((λ h. absurd (omega (arith, h.1))), tt)
    apart_one i false e =
        let g : n ≤ i = grind (arith, nat_tests) in
        let none : own_of (part_wires_of n) i ≡ [] = get_past (map (λ j. j ∷ []) (up_to n)) [] i (let m = length-mapped (λ j. j ∷ []) n in omega (arith, m, g)) in
        subst AllApart (sym none) tt

link_has : (n i q : ℕ) → Has (own_of (link_wires_of n) i) q → (i ≡ 0) × (q < n)
unfolding link_wires_of
link_has n zero q h = (refl, has_below n q h)
link_has n (suc i) q h = absurd (omega (arith, h.1))

link_owner : (n q : ℕ) → q < n → owner_of (link_wires_of n) q ≡ 0
unfolding link_wires_of
link_owner n q b = get-mapped (λ i. 0) n q 0 b

link_wired : (n : ℕ) → Wired (link_wires_of n) n
unfolding link_wires_of
link_wired n = record {
  listed = λ i q h. (let r = link_has n i q h in link_owner n q r.1 ∙ sym r.0);
  within = λ i q h. (link_has n i q h).1;
  found = λ q b. subst (λ j. Has (own_of (link_wires_of n) j) q) (sym (link_owner n q b)) (has_up_to n q b);
  apart = λ i. apart_link i;
}
  where
    apart_link : (i : ℕ) → AllApart (own_of (link_wires_of n) i)
    apart_link zero = apart_up_to n
    apart_link (suc i) = tt

link_own_zero : (n : ℕ) → length (own_of (link_wires_of n) 0) ≡ length (map port_no (up_to n))
unfolding link_wires_of
link_own_zero n = sym (length-map port_no (up_to n))

pub ring_is_plan : (n until : ℕ) → 1 ≤ n → n ≤ 256 → until ≤ 500000000000 → IsPlan part link (ring_plan n until)
ring_is_plan n until some few early = record {
  parts_are_parts = refl;
  links_are_links = refl;
  few_parts = (let m = parts_count n until in omega (arith, m, few));
  few_links = omega arith;
  few_ports = (let m = length-mapped ring_port n in omega (arith, m, few));
  part_names = length-mapped _ n ∙ sym (parts_count n until);
  link_names = refl;
  fields = length-mapped _ n ∙ sym (parts_count n until);
  own = (let a = length-append (map (λ i. i ∷ []) (up_to n)) (up_to n ∷ []) in let b = length-mapped (λ i. i ∷ []) n in let m = parts_count n until in omega (arith, a, b, m));
  until = early;
  capacities = λ q p e. (let r = got_mapped ring_port n q p e in let c : p.cap ≡ 4 = ap (λ (x : PortPlan). x.cap) r.1 in (omega (arith, c), omega (arith, c)));
  part_wired = subst (λ w. Wired w (length (ring_plan n until).ports)) (sym (part_wires_are n until)) (subst (Wired (part_wires_of n)) (sym (length-mapped ring_port n)) (part_wired n));
  link_wired = subst (λ w. Wired w (length (ring_plan n until).ports)) (sym (link_wires_are n until)) (subst (Wired (link_wires_of n)) (sym (length-mapped ring_port n)) (link_wired n));
  part_owned = λ q b. (let m = length-mapped ring_port n in let k = parts_count n until in let l : q < n = omega (arith, b, m) in let o : owner_of (part_wires (ring_plan n until)) q ≡ q = ap (λ w. owner_of w q) (part_wires_are n until) ∙ part_owner n q l in omega (arith, o, l, k));
  link_owned = λ q b. (let m = length-mapped ring_port n in let l : q < n = omega (arith, b, m) in let o : owner_of (link_wires (ring_plan n until)) q ≡ 0 = ap (λ w. owner_of w q) (link_wires_are n until) ∙ link_owner n q l in omega (arith, o));
  part_own = λ i s e. (let r = got_mapped (λ j. Relay (ring_relay n j)) n i s e in ap (λ w. length (own_of w i)) (part_wires_are n until) ∙ ap length (own_relay n i r.0) ∙ ap part.own (sym r.1));
  link_own = λ i s e. link_own_of i s e;
}
  where
    link_own_of : (i : ℕ) (s : LinkKind) → slice_get (Direct (ring_link n) ∷ []) i ≡ Some s → length (own_of (link_wires (ring_plan n until)) i) ≡ link.own s
    link_own_of zero s e = ap (λ w. length (own_of w 0)) (link_wires_are n until) ∙ link_own_zero n ∙ ap link.own (let same : Direct (ring_link n) ≡ s = cc in same)
    link_own_of (suc i) s e = absurd (cc)

map_id : (xs : List ℕ) → map (λ i. i) xs ≡ xs
map_id [] = refl
map_id (x ∷ xs) = ap (λ l. x ∷ l) (map_id xs)

-- the numbers of the own ports
pub own_is : {V : Type 0} (items : V → List PortNo) (own : List V) (n : ℕ) → map items own ≡ map (λ i. port_no i ∷ []) (up_to n) ++ map port_no (up_to n) ∷ [] → map (λ v. map (λ (q : PortNo). q.0) (items v)) own ≡ map (λ i. i ∷ []) (up_to n) ++ up_to n ∷ []
own_is items own n e =
    let numbers = λ (l : List PortNo). map (λ (q : PortNo). q.0) l in
    sym (map_map numbers items own) ∙ ap (map numbers) e ∙ map-append numbers (map (λ i. port_no i ∷ []) (up_to n)) (map port_no (up_to n) ∷ [])
    ∙ ap (λ l. l ++ map (λ (q : PortNo). q.0) (map port_no (up_to n)) ∷ []) (map_map numbers (λ i. port_no i ∷ []) (up_to n))
    ∙ ap (λ l. map (λ i. i ∷ []) (up_to n) ++ l ∷ []) (map_map (λ (q : PortNo). q.0) port_no (up_to n) ∙ map_id (up_to n))

view_is : (p p' : List Part) (l l' : List LinkKind) (a a' b b' : List (List ℕ)) (f f' : List (List (List ℕ))) (q q' : List PortPlan) (o o' : List (List ℕ)) (t t' : ℕ) → p ≡ p' → l ≡ l' → a ≡ a' → b ≡ b' → f ≡ f' → q ≡ q' → o ≡ o' → t ≡ t' →
    (let x : PlanView Part LinkKind = record { parts = p; links = l; part_names = a; link_names = b; fields = f; ports = q; own = o; until = t } in
    let y : PlanView Part LinkKind = record { parts = p'; links = l'; part_names = a'; link_names = b'; fields = f'; ports = q'; own = o'; until = t' } in x ≡ y)
view_is p p' l l' a a' b b' f f' q q' o o' t t' c d e g h i j k = cc

pub plan_is : (n until : ℕ) (parts : List Part) (links : List LinkKind) (part_names link_names : List (List ℕ)) (fields : List (List (List ℕ))) (ports : List PortPlan) (own : List (List ℕ)) (time : ℕ) →
    parts ≡ (ring_plan n until).parts → links ≡ (ring_plan n until).links → part_names ≡ (ring_plan n until).part_names → link_names ≡ (ring_plan n until).link_names → fields ≡ (ring_plan n until).fields → ports ≡ (ring_plan n until).ports → own ≡ (ring_plan n until).own → time ≡ until →
    (let x : PlanView Part LinkKind = record { parts = parts; links = links; part_names = part_names; link_names = link_names; fields = fields; ports = ports; own = own; until = time } in x ≡ ring_plan n until)
plan_is n until parts links part_names link_names fields ports own time a b c d e f g h = view_is _ _ _ _ _ _ _ _ _ _ _ _ _ _ _ _ a b c d e f g h
