-- Numbers below a bound that pass a test, and bytes in ranges.
use Rattle.std.proofs.Common.{◌≡◌, ℕ, ◌<◌, ◌≤◌, ◌+◌, ◌-◌, zero, suc, Bool, true, false, List, refl, ap, arith, ◌∙◌, sym, add-one, inl, inr, subst}
use Rattle.std.specs.Prelude.{◌||◌, ◌⊎◌, not, nat_lt}
use Rattle.std.specs.List.{list_any}
use Rattle.std.proofs.lemmas.Bool.Decides.{nat_tests}
use Rattle.sim_config.specs.Tables.{RangeTable}
use Rattle.plan_rules.specs.Text.{some_below}
use Rattle.plan_rules.specs.Rules.{holds, is_uncovered}

or_true : (b : Bool) → (b || true) ≡ true
or_true true = refl
or_true false = refl

pub some_below_more : (n : ℕ) (test : ℕ → Bool) → some_below n test ≡ false → test n ≡ false → some_below (n + 1) test ≡ false
some_below_more n test none here = rw (add-one n, none, here)

one_below : (k n : ℕ) → k < suc n → (k < n) ⊎ (k ≡ n)
one_below k n below = at (nat_lt k n) refl
  where
    at : (x : Bool) → nat_lt k n ≡ x → (k < n) ⊎ (k ≡ n)
    at true e = inl (grind (arith, nat_tests))
    at false e = inr (let g : n ≤ k = grind (arith, nat_tests) in omega arith)

pub some_below_here : (n : ℕ) (test : ℕ → Bool) (k : ℕ) → k < n → test k ≡ true → some_below n test ≡ true
some_below_here zero test k below passed = absurd (omega arith)
some_below_here (suc n) test k below passed = at (one_below k n below) (λ b. some_below_here n test k b passed)
  where
    at : (k < n) ⊎ (k ≡ n) → (k < n → some_below n test ≡ true) → (some_below n test || test n) ≡ true
    at (inl b) rest = ap (λ x. x || test n) (rest b)
    at (inr e) rest = ap (λ x. some_below n test || x) (ap test (sym e) ∙ passed) ∙ or_true (some_below n test)

pub some_below-false : (n : ℕ) (test : ℕ → Bool) → ((k : ℕ) → k < n → test k ≡ false) → some_below n test ≡ false
some_below-false zero test none = refl
some_below-false (suc n) test none = rw (some_below-false n test (λ k b. none k (omega arith)), none n (omega arith))

-- a byte that no range holds
pub uncovered_at : (ranges : List RangeTable) (first count byte : ℕ) → first ≤ byte → byte < first + count → list_any (holds byte) ranges ≡ false → is_uncovered ranges first count ≡ true
unfolding is_uncovered
uncovered_at ranges first count byte from below none =
    let there : first + (byte - first) ≡ byte = omega arith in
    some_below_here count (λ k. not (list_any (holds (first + k)) ranges)) (byte - first) (omega arith)
    (ap (λ b. not (list_any (holds b) ranges)) there ∙ ap not none)

-- each byte is in a range
pub covered : (ranges : List RangeTable) (first count : ℕ) → ((k : ℕ) → first ≤ k → k < first + count → list_any (holds k) ranges ≡ true) → is_uncovered ranges first count ≡ false
unfolding is_uncovered
covered ranges first count held =
    some_below-false count (λ k. not (list_any (holds (first + k)) ranges)) (λ k b. ap not (held (first + k) (omega arith) (omega arith)))
