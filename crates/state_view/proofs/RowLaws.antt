-- Where a memory's rows lie.
use Rattle.std.proofs.Common.{◌≡◌, ℕ, ◌+◌, ◌-◌, ◌<◌, ◌≤◌, ◌^◌, List, length, take, drop, zero, suc, refl, sym, ◌∙◌, ap, arith, [], ◌∷◌}

take_all : {A : Type 0} (xs : List A) → take (length xs) xs ≡ xs
take_all [] = refl
take_all (x ∷ xs) = ap (λ l. x ∷ l) (take_all xs)

dropped : {A : Type 0} (xs : List A) (k : ℕ) → k ≤ length xs → length (drop k xs) + k ≡ length xs
dropped xs zero b = omega arith
dropped [] (suc k) b = absurd (omega (arith, b))
dropped (x ∷ xs) (suc k) b = let e = dropped xs k (omega (arith, b)) in omega (arith, e)

taken : {A : Type 0} (xs : List A) (k : ℕ) → length (take k xs) ≤ length xs
taken xs zero = omega arith
taken [] (suc k) = omega arith
taken (x ∷ xs) (suc k) = let b = taken xs k in omega (arith, b)

-- bytes behind others end where all of them end
pub rows_within : (bytes : List ℕ) (base before k : ℕ) → base + length bytes ≤ 2 ^ 32 → before ≤ length bytes → base + before + length (take k (drop before bytes)) ≤ 4294967296
rows_within bytes base before k b l =
    let e = dropped bytes before l in
    let t = taken (drop before bytes) k in
    omega (arith, b, e, t)
