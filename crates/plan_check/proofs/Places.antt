-- What stands at the places of lists.
use Rattle.std.proofs.Common.{◌≡◌, ℕ, ◌+◌, ◌<◌, ◌≤◌, zero, suc, Bool, true, false, List, [], ◌∷◌, ◌++◌, map, take, drop, length, get_or, refl, ap, arith, ◌∙◌, sym, length-append, inl, inr}
use Rattle.std.specs.Prelude.{Some, slice_get, nat_lt, ◌||◌, ◌==◌, ◌⊎◌}
use Rattle.std.specs.List.{list_any}
use Rattle.std.proofs.lemmas.Bool.Decides.{nat_tests}
use Rattle.tick_law.specs.Wires.{AllApart}
use Rattle.plan_check.specs.Plan.{up_to}

pub length-map : {A B : Type 0} (f : A → B) (xs : List A) → length (map f xs) ≡ length xs
length-map f [] = refl
length-map f (x ∷ xs) = ap suc (length-map f xs)

pub length-up_to : (n : ℕ) → length (up_to n) ≡ n
length-up_to zero = refl
length-up_to (suc n) = (let a = length-append (up_to n) (n ∷ []) in let r = length-up_to n in let z : length (up_to n ++ n ∷ []) ≡ suc n = omega (arith, a, r) in z)

pub get_behind : {A : Type 0} (xs ys : List A) (d : A) (k n : ℕ) → n ≡ length xs + k → get_or (xs ++ ys) n d ≡ get_or ys k d
get_behind [] ys d k n e = ap (λ j. get_or ys j d) (let f : n ≡ k = omega (arith, e) in f)
get_behind (x ∷ xs) ys d k zero e = absurd (omega arith)
get_behind (x ∷ xs) ys d k (suc n) e = get_behind xs ys d k n (omega arith)

pub get_front : {A : Type 0} (xs ys : List A) (d : A) (k : ℕ) → k < length xs → get_or (xs ++ ys) k d ≡ get_or xs k d
get_front [] ys d k b = absurd (omega arith)
get_front (x ∷ xs) ys d zero b = refl
get_front (x ∷ xs) ys d (suc k) b = get_front xs ys d k (omega arith)

pub get_past : {A : Type 0} (xs : List A) (d : A) (k : ℕ) → length xs ≤ k → get_or xs k d ≡ d
get_past [] d k b = refl
get_past (x ∷ xs) d zero b = absurd (omega arith)
get_past (x ∷ xs) d (suc k) b = get_past xs d k (omega arith)

pub get_map : {A B : Type 0} (f : A → B) (xs : List A) (k : ℕ) (d : A) (e : B) → k < length xs → get_or (map f xs) k e ≡ f (get_or xs k d)
get_map f [] k d e b = absurd (omega arith)
get_map f (x ∷ xs) zero d e b = refl
get_map f (x ∷ xs) (suc k) d e b = get_map f xs k d e (omega arith)

pub get_take : {A : Type 0} (xs : List A) (n k : ℕ) (d : A) → k < n → get_or (take n xs) k d ≡ get_or xs k d
get_take [] zero k d b = absurd (omega arith)
get_take [] (suc n) k d b = refl
get_take (x ∷ xs) zero k d b = absurd (omega arith)
get_take (x ∷ xs) (suc n) zero d b = refl
get_take (x ∷ xs) (suc n) (suc k) d b = get_take xs n k d (omega arith)

pub take_front : {A : Type 0} (xs ys : List A) (n : ℕ) → n ≡ length xs → take n (xs ++ ys) ≡ xs
take_front [] ys zero e = refl
take_front [] ys (suc n) e = absurd (omega arith)
take_front (x ∷ xs) ys zero e = absurd (omega arith)
take_front (x ∷ xs) ys (suc n) e = ap (λ l. x ∷ l) (take_front xs ys n (omega arith))

pub drop_front : {A : Type 0} (xs ys : List A) (n : ℕ) → n ≡ length xs → drop n (xs ++ ys) ≡ ys
drop_front [] ys zero e = refl
drop_front [] ys (suc n) e = absurd (omega arith)
drop_front (x ∷ xs) ys zero e = absurd (omega arith)
drop_front (x ∷ xs) ys (suc n) e = drop_front xs ys n (omega arith)

pub one_below : (k n : ℕ) → k < suc n → (k < n) ⊎ (k ≡ n)
one_below k n below = at (nat_lt k n) refl
  where
    at : (x : Bool) → nat_lt k n ≡ x → (k < n) ⊎ (k ≡ n)
    at true e = inl (grind (arith, nat_tests))
    at false e = inr (let g : n ≤ k = grind (arith, nat_tests) in omega arith)

pub below_or : (k n : ℕ) → (k < n) ⊎ (n ≤ k)
below_or k n = at (nat_lt k n) refl
  where
    at : (x : Bool) → nat_lt k n ≡ x → (k < n) ⊎ (n ≤ k)
    at true e = inl (grind (arith, nat_tests))
    at false e = inr (grind (arith, nat_tests))

pub get-up_to : (n k d : ℕ) → k < n → get_or (up_to n) k d ≡ k
get-up_to zero k d b = absurd (omega arith)
get-up_to (suc n) k d b = at (one_below k n b) (λ l. get-up_to n k d l)
  where
    at : (k < n) ⊎ (k ≡ n) → (k < n → get_or (up_to n) k d ≡ k) → get_or (up_to n ++ n ∷ []) k d ≡ k
    at (inl l) rest = get_front (up_to n) (n ∷ []) d k (let m = length-up_to n in omega (arith, l, m)) ∙ rest l
    at (inr e) rest = get_behind (up_to n) (n ∷ []) d 0 k (let m = length-up_to n in omega (arith, e, m)) ∙ sym e

pub some_at : {A : Type 0} (xs : List A) (k : ℕ) (d : A) → k < length xs → slice_get xs k ≡ Some (get_or xs k d)
some_at [] k d b = absurd (omega arith)
some_at (x ∷ xs) zero d b = refl
some_at (x ∷ xs) (suc k) d b = some_at xs k d (omega arith)

pub within : {A : Type 0} (xs : List A) (k : ℕ) (x : A) → slice_get xs k ≡ Some x → k < length xs
within [] k x e = absurd (cc)
within (y ∷ ys) zero x e = omega arith
within (y ∷ ys) (suc k) x e = (let b = within ys k x e in omega (arith, b))

pub get_there : {A : Type 0} (xs : List A) (k : ℕ) (x d : A) → slice_get xs k ≡ Some x → get_or xs k d ≡ x
get_there [] k x d e = absurd (cc)
get_there (y ∷ ys) zero x d e = cc
get_there (y ∷ ys) (suc k) x d e = get_there ys k x d e

-- where no two places have the same number, the numbers are apart
pub apart_at : (xs : List ℕ) → ((j k : ℕ) → j < k → k < length xs → get_or xs j 0 ≡ get_or xs k 0 → ⊥) → AllApart xs
apart_at [] apart = tt
apart_at (x ∷ xs) apart = ((λ h. apart 0 (suc h.0) (omega arith) (let b = h.1 in omega (arith, b)) (sym h.2)), apart_at xs (λ j k l b e. apart (suc j) (suc k) (omega arith) (omega arith) e))

-- what a test that none passes says of each place
pub any_false : {A : Type 0} (p : A → Bool) (xs : List A) (k : ℕ) (d : A) → list_any p xs ≡ false → k < length xs → p (get_or xs k d) ≡ false
any_false p [] k d none b = absurd (omega arith)
any_false p (x ∷ xs) zero d none b = (or_false (p x) (list_any p xs) none).0
  where
    or_false : (a b : Bool) → (a || b) ≡ false → (a ≡ false) × (b ≡ false)
    or_false true b h = absurd (cc)
    or_false false b h = (refl, h)
any_false p (x ∷ xs) (suc k) d none b = any_false p xs k d (or_false (p x) (list_any p xs) none).1 (omega arith)
  where
    or_false : (a b : Bool) → (a || b) ≡ false → (a ≡ false) × (b ≡ false)
    or_false true b h = absurd (cc)
    or_false false b h = (refl, h)

pub same_number : (q : ℕ) → (q == q) ≡ true
same_number q = grind (arith, nat_tests)
