-- How many of the kept names are one name, when one is kept.
use Rattle.std.proofs.Common.{◌≡◌, ◌≢◌, ℕ, ◌+◌, List, [], ◌∷◌, ◌++◌, Bool, true, false, cond, refl, sym, ap, ◌∙◌, ◌≤◌, add-zero, arith, IsTrue, ◌↔◌, Contains}
use Rattle.std.specs.Prelude.{bytes_eq}
use Rattle.std.proofs.lemmas.List.Sums.{sum_by-append}
use Rattle.std.proofs.lemmas.Slice.Eq.{bytes_eq-Decides}
use Rattle.sim_io.specs.Sink.{Rose}
use Rattle.sim_io.specs.MemFiles.{failures_of, kept_after}
use Rattle.sim_io.specs.declared.files.FileFault.{FileFault}
use Rattle.sim_io.specs.declared.files.FileFault.TheVariants.{Failed, TooLong, OutOfMemory}

one_by_test : (kept name : List ℕ) → bytes_eq kept name ≡ true → failures_of (kept ∷ []) name ≡ 1
one_by_test kept name h = rw h

none_by_test : (kept name : List ℕ) → bytes_eq kept name ≡ false → failures_of (kept ∷ []) name ≡ 0
none_by_test kept name h = rw h

false_unless : (b : Bool) → (b ≡ true → ⊥) → b ≡ false
false_unless true h = absurd (h refl)
false_unless false h = refl

pub failures_of-kept : (failed : List (List ℕ)) (name : List ℕ) → failures_of (failed ++ name ∷ []) name ≡ failures_of failed name + 1
failures_of-kept failed name =
    sum_by-append (λ kept. cond (bytes_eq kept name) 1 0) failed (name ∷ [])
    ∙ ap (λ n. failures_of failed name + n) (one_by_test name name ((bytes_eq-Decides name name).1 refl))

pub failures_of-kept_other : (failed : List (List ℕ)) (kept name : List ℕ) → name ≢ kept → failures_of (failed ++ kept ∷ []) name ≡ failures_of failed name
failures_of-kept_other failed kept name h =
    sum_by-append (λ k. cond (bytes_eq k name) 1 0) failed (kept ∷ [])
    ∙ ap (λ n. failures_of failed name + n) (none_by_test kept name (false_unless (bytes_eq kept name) (λ same. h (sym ((bytes_eq-Decides kept name).0 same)))))
    ∙ add-zero (failures_of failed name)

pub failures_of-kept_grows : (failed : List (List ℕ)) (kept name : List ℕ) → failures_of failed name ≤ failures_of (failed ++ kept ∷ []) name
failures_of-kept_grows failed kept name =
    let e = sum_by-append (λ k. cond (bytes_eq k name) 1 0) failed (kept ∷ []) in omega (arith, e)

pub kept_after-other : (fault : FileFault) (failed new : List (List ℕ)) (kept name : List ℕ) → new ≡ kept_after fault failed kept → name ≢ kept → failures_of new name ≡ failures_of failed name
kept_after-other Failed failed new kept name e h = ap (λ names. failures_of names name) e ∙ failures_of-kept_other failed kept name h
kept_after-other TooLong failed new kept name e h = ap (λ names. failures_of names name) e
kept_after-other OutOfMemory failed new kept name e h = ap (λ names. failures_of names name) e

pub kept_after-grows : (fault : FileFault) (failed new : List (List ℕ)) (kept name : List ℕ) → new ≡ kept_after fault failed kept → failures_of failed name ≤ failures_of new name
kept_after-grows Failed failed new kept name e =
    let same = ap (λ names. failures_of names name) e in omega (arith, failures_of-kept_grows failed kept name, same)
kept_after-grows TooLong failed new kept name e = let same = ap (λ names. failures_of names name) e in omega (arith, same)
kept_after-grows OutOfMemory failed new kept name e = let same = ap (λ names. failures_of names name) e in omega (arith, same)

pub kept_after-rose : (fault : FileFault) (failed new : List (List ℕ)) (kept : List ℕ) → new ≡ kept_after fault failed kept → fault ≡ Failed → Rose (failures_of failed kept) (failures_of new kept)
kept_after-rose Failed failed new kept e is =
    let same = ap (λ names. failures_of names kept) e in omega (arith, failures_of-kept failed kept, same)
kept_after-rose TooLong failed new kept e is = cc
kept_after-rose OutOfMemory failed new kept e is = cc

-- a test of a list and a call is one of what they equal
pub listed_alike : (b : Bool) (fails others : List ℕ) (call number : ℕ) → fails ≡ others → call ≡ number → (IsTrue b ↔ Contains fails call) → (IsTrue b ↔ Contains others number)
listed_alike b fails others call number e f h = rw (← e, ← f) h
