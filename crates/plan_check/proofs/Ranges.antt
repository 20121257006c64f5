-- The ranges of maps are those that a map of addresses takes.
use Rattle.std.proofs.Common.{◌≡◌, ℕ, ◌*◌, ◌/◌, ◌%◌, ◌^◌, ◌<◌, ◌≤◌, zero, suc, true, false, List, [], ◌∷◌, map, take, length, get_or, refl, ap, arith, ◌∙◌, sym, subst}
use Rattle.std.specs.Prelude.{count_ones, AllPairs, IsTrue}
use Rattle.std.specs.List.{list_any}
use Rattle.std.specs.Int.{IsPowerOfTwo, is_power_of_two}
use Rattle.std.proofs.lemmas.Bool.Decides.{nat_tests}
use Rattle.std.proofs.lemmas.Nat.{zero_from_ones}
use lib.Count.{ones_step, ones-le}
use Rattle.sim_config.specs.Tables as tables
use Rattle.sim_config.specs.Tables.{PlanTables, RangeTable, MapTable}
use Rattle.addr_map.specs.Range.{IsRange, Apart}
use Rattle.plan_rules.specs.Rules.{overlaps}
use Rattle.plan_check.specs.Maps.{range_of}
use Rattle.plan_check.proofs.Places.{length-map, get_map, get_take, any_false}

power_step : (k : ℕ) → 2 ^ suc k ≡ 2 * 2 ^ k
power_step k = omega arith

power_of : (d n : ℕ) → n ≤ d → count_ones n ≡ 1 → IsPowerOfTwo n
power_of zero n small one = absurd (let l = ones-le 0 n (omega arith) in omega (arith, l, one))
power_of (suc d) n small one = at (n % 2) refl (λ few half. power_of d (n / 2) few half)
  where
    at : (r : ℕ) → n % 2 ≡ r → (n / 2 ≤ d → count_ones (n / 2) ≡ 1 → IsPowerOfTwo (n / 2)) → IsPowerOfTwo n
    at zero e rest =
        (let s = ones_step n in
        let half = rest (omega arith) (omega (arith, s, e, one)) in
        let p : n ≡ 2 * 2 ^ half.0 = (let h = half.1 in omega (arith, h, e)) in
        (suc half.0, p ∙ sym (power_step half.0)))
    at (suc r) e rest =
        (let s = ones_step n in
        let none : count_ones (n / 2) ≡ 0 = omega (arith, s, e, one) in
        let half : n / 2 ≡ 0 = zero_from_ones (n / 2) none in
        let p : n ≡ 1 = omega (arith, half, e) in
        (0, p))

pub power_from_test : (n : ℕ) → IsTrue (is_power_of_two n) → IsPowerOfTwo n
power_from_test n test = power_of n n (omega arith) (grind (arith, nat_tests, test))

pub range_is_range : (text : PlanTables) (r : RangeTable) → tables.IsRange r → IsRange (range_of text r)
range_is_range text r is = record {
  base_aligned = is.base.shape;
  size_aligned = is.size.shape;
  not_empty = is.size.least;
  within_addresses = is.end;
  granule_power = power_from_test r.granule is.granule.shape;
  granule_least = is.granule.least;
  targets_power = subst IsPowerOfTwo (sym count) (power_from_test (length r.to) is.to.shape);
  targets_most = (let m = is.to.greatest in omega (arith, count, m));
}
  where
    count : length (range_of text r).to ≡ length r.to
    count = length-map _ _ ∙ length-map _ r.to

-- ranges that share no byte
pub apart_of : (text : PlanTables) (a b : RangeTable) → overlaps a b ≡ false → Apart (range_of text b) (range_of text a)
apart_of text a b none = λ byte in_b in_a.
    (let x = in_b.from_base in let y = in_b.below_end in let z = in_a.from_base in let w = in_a.below_end in
    let both : overlaps a b ≡ true = grind (arith, nat_tests, x, y, z, w) in cc)

pub blank_range : RangeTable
blank_range = record { base = 0; size = 0; to = []; granule = 0 }

takes : {A : Type 0} (xs : List A) (n j : ℕ) → j < n → n ≤ length xs → j < length (take n xs)
takes [] zero j below fits = absurd (omega arith)
takes [] (suc n) j below fits = absurd (omega arith)
takes (x ∷ xs) zero j below fits = absurd (omega arith)
takes (x ∷ xs) (suc n) zero below fits = omega arith
takes (x ∷ xs) (suc n) (suc j) below fits = (let r = takes xs n j (omega arith) (omega arith) in omega (arith, r))

-- where no range shares a byte with an earlier one, the ranges that lead to ports are apart
pub ranges_apart : (text : PlanTables) (ranges : List RangeTable) → ((j : ℕ) → j < length ranges → list_any (overlaps (get_or ranges j blank_range)) (take j ranges) ≡ false) → AllPairs Apart (map (range_of text) ranges)
ranges_apart text ranges none = λ i j d below fits.
    (let count = length-map (range_of text) ranges in
    let jb : j < length ranges = omega (arith, fits, count) in
    let ib : i < length ranges = omega (arith, below, jb) in
    let free = any_false (overlaps (get_or ranges j blank_range)) (take j ranges) i blank_range (none j jb) (takes ranges j i below (omega (arith, jb))) in
    let same = get_take ranges j i blank_range below in
    let apart = apart_of text (get_or ranges j blank_range) (get_or ranges i blank_range) (ap (overlaps (get_or ranges j blank_range)) (sym same) ∙ free) in
    subst (λ x. Apart x (get_or (map (range_of text) ranges) j d)) (sym (get_map (range_of text) ranges i blank_range d ib))
    (subst (λ x. Apart (range_of text (get_or ranges i blank_range)) x) (sym (get_map (range_of text) ranges j blank_range d jb)) apart))
