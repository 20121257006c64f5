-- What the number of a text says of the names.
use Rattle.std.proofs.Common.{◌≡◌, ℕ, ◌+◌, ◌<◌, ◌≤◌, List, [], ◌∷◌, length, Bool, true, false, cond, Some, None, bytes_eq, zero, suc, refl, sym, ap, arith}
use Rattle.std.proofs.lemmas.Option.{slice_get_within}
use Rattle.std.proofs.lemmas.Slice.Eq.{bytes_eq-Decides}
use Rattle.std.specs.Prelude.{slice_get}
use Rattle.std.specs.List.{position_from}
use Rattle.world_query.specs.Directory.{number_of}

-- below a list's first number nothing is found
from_below : (names : List (List ℕ)) (text : List ℕ) (i k : ℕ) → position_from (λ n. bytes_eq text n) i names ≡ Some k → i ≤ k
from_below [] text i k e = absurd (cc)
from_below (n ∷ ns) text i k e = at (bytes_eq text n) e (λ f. from_below ns text (i + 1) k f)
  where
    at : (b : Bool) → cond b (Some i) (position_from (λ m. bytes_eq text m) (i + 1) ns) ≡ Some k → (position_from (λ m. bytes_eq text m) (i + 1) ns ≡ Some k → i + 1 ≤ k) → i ≤ k
    at true f more = let same : i ≡ k = cc in omega (arith, same)
    at false f more = let later = more f in omega (arith, later)

found_from : (names : List (List ℕ)) (text : List ℕ) (i k j : ℕ) → j ≡ i + k → position_from (λ n. bytes_eq text n) i names ≡ Some j → slice_get names k ≡ Some text
found_from [] text i k j is e = absurd (cc)
found_from (n ∷ ns) text i zero j is e = at (bytes_eq text n) refl e
  where
    at : (b : Bool) → bytes_eq text n ≡ b → cond b (Some i) (position_from (λ m. bytes_eq text m) (i + 1) ns) ≡ Some j → Some n ≡ Some text
    at true same f = ap (λ t. Some t) (sym ((bytes_eq-Decides text n).0 same))
    at false other f = let later = from_below ns text (i + 1) j f in absurd (omega (arith, later, is))
found_from (n ∷ ns) text i (suc k) j is e = at (bytes_eq text n) e (λ f. found_from ns text (i + 1) k j (omega (arith, is)) f)
  where
    at : (b : Bool) → cond b (Some i) (position_from (λ m. bytes_eq text m) (i + 1) ns) ≡ Some j → (position_from (λ m. bytes_eq text m) (i + 1) ns ≡ Some j → slice_get ns k ≡ Some text) → slice_get ns k ≡ Some text
    at true f more = let same : i ≡ j = cc in absurd (omega (arith, same, is))
    at false f more = more f

-- the name of the number that a text has is the text
pub slice_get-number_of : (names : List (List ℕ)) (text : List ℕ) (k : ℕ) → number_of names text ≡ Some k → slice_get names k ≡ Some text
slice_get-number_of names text k e = found_from names text 0 k k (omega arith) e

none_from : (names : List (List ℕ)) (text : List ℕ) (i k : ℕ) → position_from (λ n. bytes_eq text n) i names ≡ None → slice_get names k ≡ Some text → ⊥
none_from [] text i k e at = cc
none_from (n ∷ ns) text i zero e at = here (bytes_eq text n) refl e
  where
    here : (b : Bool) → bytes_eq text n ≡ b → cond b (Some i) (position_from (λ m. bytes_eq text m) (i + 1) ns) ≡ None → ⊥
    here true is f = cc
    here false is f =
        let same : text ≡ n = let other : n ≡ text = cc in sym other in
        let equal : bytes_eq text n ≡ true = (bytes_eq-Decides text n).1 same in
        cc
none_from (n ∷ ns) text i (suc k) e at = there (bytes_eq text n) e (λ f. none_from ns text (i + 1) k f at)
  where
    there : (b : Bool) → cond b (Some i) (position_from (λ m. bytes_eq text m) (i + 1) ns) ≡ None → (position_from (λ m. bytes_eq text m) (i + 1) ns ≡ None → ⊥) → ⊥
    there true f more = cc
    there false f more = more f

-- a text that has no number is none of the names
pub number_of-None : (names : List (List ℕ)) (text : List ℕ) (k : ℕ) → number_of names text ≡ None → slice_get names k ≡ Some text → ⊥
number_of-None names text k e at = none_from names text 0 k e at

-- a number that a text has is one of the names'
pub number_of-within : (names : List (List ℕ)) (text : List ℕ) (k : ℕ) → number_of names text ≡ Some k → k < length names
number_of-within names text k e = slice_get_within names k text (slice_get-number_of names text k e)
