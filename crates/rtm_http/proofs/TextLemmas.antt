-- The first place at which a byte passes a test.
use Rattle.std.proofs.Common.{◌≡◌, ℕ, ◌≤◌, Bool, true, false, cond, ltb, List, [], ◌∷◌, ◌++◌, length, refl, arith, ap, not, take, ◌∙◌}
use Rattle.std.proofs.Math.Seq.{take-append_seam}
use Rattle.std.specs.Prelude.{Some, None, unwrap_or, ◌==◌}
use Rattle.std.specs.List.{position_or_len, AllPass}
use Rattle.std.proofs.lemmas.Bool.Decides.{nat_tests}
use Rattle.std.proofs.lemmas.List.Elements.{All-head, All-tail}

-- the place that was found, or the length
pub place_or : (test : Bool) (place len : ℕ) → ltb place len ≡ test → place ≤ len → unwrap_or (cond test (Some place) None) len ≡ place
place_or true place len is within = refl
place_or false place len is within = grind (arith, nat_tests)

-- behind a segment comes its slash
pub segment_place : (segment more : List ℕ) → AllPass (λ b. not (b == 47)) segment → position_or_len (λ (b : ℕ). b == 47) (segment ++ 47 ∷ more) ≡ length segment
segment_place [] more all = refl
segment_place (b ∷ segment) more all =
    rw (All-head (λ x. not (x == 47) ≡ true) b segment all, segment_place segment more (All-tail (λ x. not (x == 47) ≡ true) b segment all)) (omega arith)

-- and that many bytes are the segment
pub segment_take : (segment more : List ℕ) (n : ℕ) → n ≡ length segment → take n (segment ++ more) ≡ segment
segment_take segment more n is = ap (λ k. take k (segment ++ more)) is ∙ take-append_seam segment more
