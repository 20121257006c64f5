-- Different numbers below a bound are no more than the bound.
use Rattle.std.proofs.Common.{◌≡◌, ◌≢◌, ℕ, ◌+◌, ◌<◌, ◌≤◌, List, [], ◌∷◌, ◌++◌, length, zero, suc, sym, ◌∙◌, subst, arith, refl, inl, inr, length-append}
use Rattle.std.specs.Prelude.{Bool, true, false, ◌==◌, ◌⊎◌}
use Rattle.std.proofs.lemmas.Bool.Decides.{nat_tests}
use Rattle.tick_law.specs.Wires.{Wires, Wired, own_of, owner_of, Has, AllApart}
use Rattle.model_laws.specs.Outcome.{own_to}

keep : Bool → ℕ → List ℕ → List ℕ
keep true x rest = rest
keep false x rest = x ∷ rest

-- the list without a number
without : ℕ → List ℕ → List ℕ
without q [] = []
without q (x ∷ xs) = keep (x == q) x (without q xs)

has_rest : (x : ℕ) (xs : List ℕ) (k : ℕ) → Has xs k → Has (x ∷ xs) k
has_rest x xs k (j, l, e) = (suc j, omega arith, e)

same_of : (a b : ℕ) → (a == b) ≡ true → a ≡ b
same_of a b e = grind (arith, nat_tests)

other_of : (a b : ℕ) → (a == b) ≡ false → a ≢ b
other_of a b e f = grind (arith, nat_tests)

-- what is left was there, and is not the number
has_without : (q : ℕ) (xs : List ℕ) (k : ℕ) → Has (without q xs) k → Has xs k × (k ≢ q)
unfolding without keep
has_without q [] k h = absurd (omega (arith, h.1))
has_without q (x ∷ xs) k h = at (x == q) refl h (λ r. has_without q xs k r)
  where
    first : (x == q) ≡ false → (r : Has (x ∷ without q xs) k) → (Has (without q xs) k → Has xs k × (k ≢ q)) → Has (x ∷ xs) k × (k ≢ q)
    first e (zero, l, f) rest = ((zero, omega arith, f), λ g. other_of x q e (f ∙ g))
    first e (suc j, l, f) rest = let r = rest (j, omega arith, f) in (has_rest x xs k r.0, r.1)

    at : (b : Bool) → (x == q) ≡ b → Has (keep b x (without q xs)) k → (Has (without q xs) k → Has xs k × (k ≢ q)) → Has (x ∷ xs) k × (k ≢ q)
    at true e r rest = let s = rest r in (has_rest x xs k s.0, s.1)
    at false e r rest = first e r rest

apart_without : (q : ℕ) (xs : List ℕ) → AllApart xs → AllApart (without q xs)
unfolding without keep
apart_without q [] a = tt
apart_without q (x ∷ xs) a = at (x == q) (apart_without q xs a.1)
  where
    at : (b : Bool) → AllApart (without q xs) → AllApart (keep b x (without q xs))
    at true r = r
    at false r = (λ h. a.0 (has_without q xs x h).0, r)

-- where the number is not there, nothing goes
without_none : (q : ℕ) (xs : List ℕ) → (Has xs q → ⊥) → length xs ≤ length (without q xs)
unfolding without keep
without_none q [] n = omega arith
without_none q (x ∷ xs) n = at (x == q) refl (without_none q xs (λ h. n (has_rest x xs q h)))
  where
    at : (b : Bool) → (x == q) ≡ b → length xs ≤ length (without q xs) → length (x ∷ xs) ≤ length (keep b x (without q xs))
    at true e r = absurd (n (zero, omega arith, same_of x q e))
    at false e r = omega (arith, r)

length-without : (q : ℕ) (xs : List ℕ) → AllApart xs → length xs ≤ length (without q xs) + 1
unfolding without keep
length-without q [] a = omega arith
length-without q (x ∷ xs) a = at (x == q) refl (length-without q xs a.1)
  where
    at : (b : Bool) → (x == q) ≡ b → length xs ≤ length (without q xs) + 1 → length (x ∷ xs) ≤ length (keep b x (without q xs)) + 1
    at true e r = let s = without_none q xs (λ h. a.0 (subst (λ k. Has xs k) (sym (same_of x q e)) h)) in omega (arith, s)
    at false e r = omega (arith, r)

pub pigeons : (n : ℕ) (xs : List ℕ) → AllApart xs → ((k : ℕ) → Has xs k → k < n) → length xs ≤ n
pigeons zero [] a h = omega arith
pigeons zero (x ∷ xs) a h = absurd (let l = h x (zero, omega arith, refl) in omega (arith, l))
pigeons (suc n) xs a h =
    let fewer = pigeons n (without n xs) (apart_without n xs a) (λ k r. (let s = has_without n xs k r in let l = h k s.0 in below k l s.1)) in
    omega (arith, fewer, length-without n xs a)
  where
    below : (k : ℕ) → k < suc n → k ≢ n → k < n
    below k l ne = omega arith

has_either : (xs ys : List ℕ) (k : ℕ) → Has (xs ++ ys) k → Has xs k ⊎ Has ys k
has_either [] ys k h = inr h
has_either (x ∷ xs) ys k (zero, l, e) = inl (zero, omega arith, e)
has_either (x ∷ xs) ys k (suc j, l, e) = more (has_either xs ys k (j, omega arith, e))
  where
    more : Has xs k ⊎ Has ys k → Has (x ∷ xs) k ⊎ Has ys k
    more (inl h) = inl (has_rest x xs k h)
    more (inr h) = inr h

apart_both : (xs ys : List ℕ) → AllApart xs → AllApart ys → ((k : ℕ) → Has xs k → Has ys k → ⊥) → AllApart (xs ++ ys)
apart_both [] ys a b n = b
apart_both (x ∷ xs) ys a b n = (λ h. no_first (has_either xs ys x h), apart_both xs ys a.1 b (λ k h g. n k (has_rest x xs k h) g))
  where
    no_first : Has xs x ⊎ Has ys x → ⊥
    no_first (inl h) = a.0 h
    no_first (inr h) = n x (zero, omega arith, refl) h

-- the ports of the first so many actors in one list
flat : Wires → ℕ → List ℕ
flat w zero = []
flat w (suc i) = own_of w i ++ flat w i

length-flat : (w : Wires) (n : ℕ) → length (flat w n) ≡ own_to w n
unfolding flat
length-flat w zero = refl
length-flat w (suc i) = let r = length-flat w i in let a = length-append (own_of w i) (flat w i) in omega (arith, r, a)

has_flat : (w : Wires) (ports n k : ℕ) → Wired w ports → Has (flat w n) k → (owner_of w k < n) × (k < ports)
unfolding flat
has_flat w ports zero k wired h = absurd (omega (arith, h.1))
has_flat w ports (suc i) k wired h = at (has_either (own_of w i) (flat w i) k h) (λ r. has_flat w ports i k wired r)
  where
    at : Has (own_of w i) k ⊎ Has (flat w i) k → (Has (flat w i) k → (owner_of w k < i) × (k < ports)) → (owner_of w k < suc i) × (k < ports)
    at (inl r) rest = (let e = wired.listed i k r in omega (arith, e), wired.within i k r)
    at (inr r) rest = let s = rest r in (omega (arith, s.0), s.1)

apart_flat : (w : Wires) (ports n : ℕ) → Wired w ports → AllApart (flat w n)
unfolding flat
apart_flat w ports zero wired = tt
apart_flat w ports (suc i) wired = apart_both (own_of w i) (flat w i) (wired.apart i) (apart_flat w ports i wired) (λ k h g. let e = wired.listed i k h in let l = (has_flat w ports i k wired g).0 in omega (arith, e, l))

-- the first so many actors have no more ports than there are
pub own_to-le : (w : Wires) (ports n : ℕ) → Wired w ports → own_to w n ≤ ports
own_to-le w ports n wired =
    let p = pigeons ports (flat w n) (apart_flat w ports n wired) (λ k h. (has_flat w ports n k wired h).1) in
    omega (arith, p, length-flat w n)

pub own-le : (w : Wires) (ports i : ℕ) → Wired w ports → length (own_of w i) ≤ ports
own-le w ports i wired = pigeons ports (own_of w i) (wired.apart i) (λ k h. wired.within i k h)
