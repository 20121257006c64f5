-- Lists that are mapped, beside searches and fronts of them.
use Rattle.std.proofs.Common.{◌≡◌, ℕ, ◌<◌, ◌+◌, zero, suc, Bool, true, false, cond, List, [], ◌∷◌, map, take, length, get_or, refl, ap, arith, ◌∙◌, sym, nat_lt}
use Rattle.std.specs.Prelude.{Option, Some, None, position, slice_get, ◌||◌}
use Rattle.sim_config.specs.Tables.{PlanTables, MapTable, RangeTable, LinkTable}
use Rattle.plan_rules.specs.Text.{ranges_at, ranges_of, range_targets, map_targets, port_numbers}
use Rattle.plan_rules.specs.Rules.{targets_at, ports_at}
use Rattle.std.specs.List.{list_any, position_or_len}

pub mapped_front : {A B : Type 0} (f : A → B) (n : ℕ) (xs : List A) → map f (take n xs) ≡ take n (map f xs)
mapped_front f zero xs = refl
mapped_front f (suc n) [] = refl
mapped_front f (suc n) (x ∷ xs) = ap (λ l. f x ∷ l) (mapped_front f n xs)

-- a test that one of the mapped elements passes
pub list_any_mapped : {A B : Type 0} (p : B → Bool) (f : A → B) (xs : List A) (i : ℕ) (d : A) → i < length xs → p (f (get_or xs i d)) ≡ true → list_any p (map f xs) ≡ true
list_any_mapped p f [] i d below passed = absurd (omega arith)
list_any_mapped p f (x ∷ xs) zero d below passed = ap (λ b. b || list_any p (map f xs)) passed
list_any_mapped p f (x ∷ xs) (suc i) d below passed = ap (λ b. p (f x) || b) (list_any_mapped p f xs i d (omega arith) passed) ∙ or_true (p (f x))
  where
    or_true : (b : Bool) → (b || true) ≡ true
    or_true true = refl
    or_true false = refl

position_or_len-map : {A B : Type 0} (p : B → Bool) (f : A → B) (xs : List A) → position_or_len p (map f xs) ≡ position_or_len (λ x. p (f x)) xs
position_or_len-map p f [] = refl
position_or_len-map p f (x ∷ xs) = rw (position_or_len-map p f xs)

length-map : {A B : Type 0} (f : A → B) (xs : List A) → length (map f xs) ≡ length xs
length-map f [] = refl
length-map f (x ∷ xs) = ap suc (length-map f xs)

-- the first place is the same in the mapped list
pub position_of_mapped : {A B : Type 0} (p : B → Bool) (f : A → B) (xs : List A) → position p (map f xs) ≡ position (λ x. p (f x)) xs
position_of_mapped p f xs = rw (position_or_len-map p f xs, length-map f xs)

-- what stands at a place of a mapped list
get_mapped : {A B : Type 0} (f : A → B) (xs : List A) (k : ℕ) (x : A) (d : B) → slice_get xs k ≡ Some x → get_or (map f xs) k d ≡ f x
get_mapped f [] k x d there = absurd (cc)
get_mapped f (y ∷ ys) zero x d there = ap f (let same : y ≡ x = cc in same)
get_mapped f (y ∷ ys) (suc k) x d there = get_mapped f ys k x d there

-- the targets by the numbers of a map and a range are those of that range
pub targets_of_range : (text : PlanTables) (m r : ℕ) (range : RangeTable) → slice_get (ranges_at text m) r ≡ Some range → targets_at text m r ≡ range_targets text range
targets_of_range text m r range there = at (slice_get text.maps m) refl there
  where
    at : (o : Option MapTable) → slice_get text.maps m ≡ o → slice_get (ranges_of o) r ≡ Some range → targets_at text m r ≡ range_targets text range
    at None e h = absurd (cc)
    at (Some t) e h = ap (λ l. get_or l r []) (get_mapped (map_targets text) text.maps m t [] e) ∙ get_mapped (range_targets text) t.ranges r range [] h

-- the ports by the number of a link are those of that link
pub ports_of_link : (text : PlanTables) (l : ℕ) (link : LinkTable) → slice_get text.links l ≡ Some link → ports_at text l ≡ port_numbers text link
ports_of_link text l link there = get_mapped (port_numbers text) text.links l link [] there
