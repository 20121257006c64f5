-- The one range that may hold an address.
use Rattle.std.proofs.Common.{◌≡◌, ℕ, ◌-◌, ◌<◌, ◌≤◌, List, length, get_or, All, inl, inr, ap, subst, sym, ◌∙◌, arith}
use Rattle.std.proofs.lemmas.Bool.{cases_lt, cases_order}
use Rattle.std.specs.List.Sorted.{IsPermutation}
use Rattle.std.proofs.lemmas.List.{get_or_default}
use Rattle.std.proofs.lemmas.List.Elements.{Contains-get_or}
use Rattle.std.proofs.lemmas.List.Sorted.{All-permutation, Contains-permutation}
use Rattle.addr_map.specs.declared.range.Range.{Range}
use Rattle.addr_map.specs.declared.start.Start.{Start}
use Rattle.addr_map.specs.Range.{Holds}
use Rattle.addr_map.specs.Start.{IsStart, HasStarts, AreStarts, AreBelow, IsMap, IsSearchable}

-- two ranges that hold one address are one
pub same_range : (rs : List Range) (i j addr : ℕ) (d : Range) → IsMap rs → i < length rs → j < length rs → Holds (get_or rs i d) addr → Holds (get_or rs j d) addr → i ≡ j
same_range rs i j addr d map in_i in_j at_i at_j = elim (cases_order i j) [
  | inl e ↦ e
  | inr lt_or_gt ↦ elim lt_or_gt [
    | inl lt ↦ absurd (map.apart i j d lt in_j addr at_i at_j)
    | inr gt ↦ absurd (map.apart j i d gt in_i addr at_j at_i)
  ]
]

module _ (rs : List Range) (starts : List Start) (addr below : ℕ) (map : IsSearchable rs starts) (point : AreBelow starts addr below) where
  -- a range that holds the address starts among those at or below it
  pub start_below : (k : ℕ) (e : Range) (d : Start) → k < length rs → Holds (get_or rs k e) addr → (q : ℕ) × (q < below) × ((get_or starts q d).no ≡ k) × ((get_or rs k e).base ≡ (get_or starts q d).base)
  start_below k e d within held =
      let found = map.has_starts.every k within in
      let q = found.0 in
      let base_q : (get_or rs (get_or starts q d).no e).base ≡ (get_or starts q d).base = (map.has_starts.each q d found.1).base_is e in
      let base_k : (get_or rs k e).base ≡ (get_or starts q d).base = ap (λ n. (get_or rs n e).base) (sym (found.2 d)) ∙ base_q in (
        q,
        elim (cases_lt q below) [
          | inl lt ↦ lt
          | inr ge ↦ absurd (omega (arith, point.others q d ge found.1, held.from_base, base_k))
        ],
        found.2 d,
        base_k,
      )

  -- the last of them is where it starts
  pub held_by_last : (k : ℕ) (e : Range) (d : Start) → k < length rs → Holds (get_or rs k e) addr → (0 < below) × (k ≡ (get_or starts (below - 1) d).no)
  held_by_last k e d within held =
      let found = start_below k e d within held in
      let q = found.0 in
      let last = get_or starts (below - 1) d in
      let here : below - 1 < length starts = omega (arith, point.bound, found.1) in
      let start = map.has_starts.each (below - 1) d here in
      let rise : (get_or starts q d).base ≤ last.base = map.rising q (below - 1) d (omega (arith, found.1)) here in
      let low : last.base ≤ addr = point.first (below - 1) d (omega (arith, found.1)) in
      let shape = map.is_map.shape last.no e start.no_within in
      let at_k : Holds (get_or rs k e) last.base = record { from_base = omega (arith, found.3, rise); below_end = omega (arith, held.below_end, low) } in
      let at_last : Holds (get_or rs last.no e) last.base = record { from_base = omega (arith, start.base_is e); below_end = omega (arith, start.base_is e, shape.not_empty) } in
      (omega (arith, found.1), same_range rs k last.no last.base e map.is_map within start.no_within at_k at_last)

  pub none_starts_below : below ≡ 0 → All (λ r. ¬ Holds r addr) rs
  none_starts_below e k d within held =
      let s : Start = record { base = 0; no = 0 } in
      let last = held_by_last k d s within held in
      absurd (omega (arith, last.0, e))

  pub last_is_not : (start : Start) (range : Range) → start ≡ get_or starts (below - 1) start → range ≡ get_or rs start.no range → ¬ Holds range addr → All (λ r. ¬ Holds r addr) rs
  last_is_not start range start_is range_is out k d within held =
      let last = held_by_last k d start within held in
      let no : k ≡ start.no = last.1 ∙ ap (λ s. s.no) (sym start_is) in
      let in_no : start.no < length rs = omega (arith, no, within) in
      let same : get_or rs k d ≡ range = ap (λ n. get_or rs n d) no ∙ get_or_default rs start.no d range in_no ∙ sym range_is in
      let Q : Range → Type 0 = λ r. Holds r addr in
      out (subst Q same held)

-- the starts in another order are still those of each range
pub HasStarts-permutation : (rs : List Range) (xs ys : List Start) → IsPermutation xs ys → HasStarts rs xs → HasStarts rs ys
HasStarts-permutation rs xs ys moved has = record {
  each = All-permutation (IsStart rs) xs ys moved has.each;
  every = λ no within.
      let found = has.every no within in
      let d : Start = record { base = 0; no = 0 } in
      let start = get_or xs found.0 d in
      let there = Contains-permutation xs ys start moved (Contains-get_or xs found.0 d found.1) in
      (there.0, there.1, λ e. ap (λ s. s.no) (get_or_default ys there.0 e start there.1 ∙ there.2) ∙ found.2 d);
}

-- starts in the order of the ranges are those of each range
pub HasStarts-in_order : (rs : List Range) (starts : List Start) → AreStarts rs (length rs) starts → HasStarts rs starts
HasStarts-in_order rs starts are = record {
  each = are.each;
  every = λ no within. (no, omega (arith, are.count_is), λ d. are.in_order no d within);
}
