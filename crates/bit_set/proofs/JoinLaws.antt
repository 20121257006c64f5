-- Words that are joined, bit by bit.
use Rattle.std.proofs.Common.{◌≡◌, ◌≢◌, ℕ, zero, suc, ◌+◌, ◌-◌, ◌*◌, ◌/◌, ◌%◌, ◌^◌, ◌<◌, ◌≤◌, max, inl, inr, List, length, get_or, set, sym, ◌∙◌, ap, arith, refl}
use Rattle.std.specs.Prelude.{Bool, ◌==◌, ◌||◌, bit_and, bit_or}
use Rattle.std.specs.Int.{bit_at, w64}
use Rattle.std.proofs.lemmas.List.{get_or-set_same, get_or-set_other, length-set}
use Rattle.std.proofs.lemmas.Bool.{cases_lt}
use Rattle.std.proofs.lemmas.Nat.{pow_pos, shr-shr}
use Rattle.std.proofs.lemmas.Nat.Bits.{bit_at_and, bit_at_or, bit_at_not, bit_at_mask_inside, bit_at_mask_below, bit_at_cat_low, bit_at_cat_high, bit_at_above, bit_at-zero, bit_at-lt, ones_shl}
use Rattle.bit_set.specs.Bits.{in_words}

bit_shr : (w s i : ℕ) → bit_at (w / 2 ^ s) i ≡ bit_at w (s + i)
bit_shr w s i = ap (λ x. x % 2) (shr-shr w s i)

bit_mod : (m i : ℕ) → i < 64 → bit_at (m % 18446744073709551616) i ≡ bit_at m i
bit_mod m i b =
    let split : m / 18446744073709551616 * 18446744073709551616 + m % 18446744073709551616 ≡ m = omega arith in
    sym (bit_at_cat_low (m / 18446744073709551616) 64 (m % 18446744073709551616) i b) ∙ ap (λ x. bit_at x i) split

bit_shl_low : (w s i : ℕ) → i < s → bit_at (w * 2 ^ s) i ≡ 0
bit_shl_low w s i b =
    let whole : w * 2 ^ s ≡ w * 2 ^ s + 0 = omega arith in
    ap (λ x. bit_at x i) whole ∙ bit_at_cat_low w s 0 i b ∙ bit_at-zero i

bit_shl_high : (w s i : ℕ) → s ≤ i → bit_at (w * 2 ^ s) i ≡ bit_at w (i - s)
bit_shl_high w s i b =
    let whole : w * 2 ^ s ≡ w * 2 ^ s + 0 = omega arith in
    ap (λ x. bit_at x i) whole ∙ bit_at_cat_high w s 0 i (pow_pos s) b

-- a word that is shifted by 64 less a number below 64, in two steps
shifted_low : (high s i : ℕ) → s < 64 → s + i < 64 → bit_at (high * 2 % 18446744073709551616 * 2 ^ (63 - s) % 18446744073709551616) i ≡ 0
shifted_low high s i within b =
    bit_mod (high * 2 % 18446744073709551616 * 2 ^ (63 - s)) i (omega (arith, b)) ∙ elim (cases_lt i (63 - s)) [
      | inl lt ↦ bit_shl_low (high * 2 % 18446744073709551616) (63 - s) i lt
      | inr le ↦
          bit_shl_high (high * 2 % 18446744073709551616) (63 - s) i le
          ∙ bit_mod (high * 2) (i - (63 - s)) (omega (arith, b))
          ∙ bit_shl_low high 1 (i - (63 - s)) (omega (arith, b, within))
    ]

shifted_high : (high s i : ℕ) → s < 64 → i < 64 → 64 ≤ s + i → bit_at (high * 2 % 18446744073709551616 * 2 ^ (63 - s) % 18446744073709551616) i ≡ bit_at high (s + i - 64)
shifted_high high s i within small b =
    let place : i - (63 - s) - 1 ≡ s + i - 64 = omega (arith, within, b) in
    bit_mod (high * 2 % 18446744073709551616 * 2 ^ (63 - s)) i small
    ∙ bit_shl_high (high * 2 % 18446744073709551616) (63 - s) i (omega (arith, within, b))
    ∙ bit_mod (high * 2) (i - (63 - s)) (omega (arith, small))
    ∙ bit_shl_high high 1 (i - (63 - s)) (omega (arith, within, b))
    ∙ ap (bit_at high) place

-- 64 bits of two words in a row
pub across_low : (low high s i : ℕ) → s < 64 → s + i < 64 → bit_at (bit_or (low / 2 ^ s) (high * 2 % 18446744073709551616 * 2 ^ (63 - s) % 18446744073709551616)) i ≡ bit_at low (s + i)
across_low low high s i within b =
    bit_at_or (low / 2 ^ s) _ i ∙ omega (arith, shifted_low high s i within b, bit_shr low s i)

pub across_high : (low high s i : ℕ) → low < 2 ^ 64 → s < 64 → i < 64 → 64 ≤ s + i → bit_at (bit_or (low / 2 ^ s) (high * 2 % 18446744073709551616 * 2 ^ (63 - s) % 18446744073709551616)) i ≡ bit_at high (s + i - 64)
across_high low high s i fits within small b =
    let none : bit_at (low / 2 ^ s) i ≡ 0 = bit_shr low s i ∙ bit_at_above low 64 (s + i) fits b in
    bit_at_or (low / 2 ^ s) _ i ∙ omega (arith, shifted_high high s i within small b, none)

-- the 64 bits are those of the numbers from `shift` on
pub across_in : (others : List ℕ) (n s w i : ℕ) → s < 64 → i < 64 → (s + i < 64 → bit_at w i ≡ bit_at (get_or others n 0) (s + i)) → (64 ≤ s + i → bit_at w i ≡ bit_at (get_or others (n + 1) 0) (s + i - 64)) → (bit_at w i == 1) ≡ in_words others (n * 64 + s + i)
across_in others n s w i within small low high = elim (cases_lt (s + i) 64) [
  | inl lt ↦
      (let word : n ≡ (n * 64 + s + i) / 64 = omega (arith, lt) in
      let bit : s + i ≡ (n * 64 + s + i) % 64 = omega (arith, lt) in
      ap (λ x. x == 1) (low lt ∙ ap (λ m. bit_at (get_or others m 0) (s + i)) word ∙ ap (bit_at (get_or others ((n * 64 + s + i) / 64) 0)) bit))
  | inr le ↦
      (let word : n + 1 ≡ (n * 64 + s + i) / 64 = omega (arith, le, within, small) in
      let bit : s + i - 64 ≡ (n * 64 + s + i) % 64 = omega (arith, le, within, small) in
      ap (λ x. x == 1) (high le ∙ ap (λ m. bit_at (get_or others m 0) (s + i - 64)) word ∙ ap (bit_at (get_or others ((n * 64 + s + i) / 64) 0)) bit))
]

or_test : (x y : ℕ) → x < 2 → y < 2 → (max x y == 1) ≡ ((x == 1) || (y == 1))
or_test zero zero a b = refl
or_test zero (suc zero) a b = refl
or_test (suc zero) zero a b = refl
or_test (suc zero) (suc zero) a b = refl
or_test (suc (suc x)) y a b = absurd (omega (arith, a))
or_test x (suc (suc y)) a b = absurd (omega (arith, b))

pub either_bit : (word more i : ℕ) → (bit_at (bit_or word more) i == 1) ≡ ((bit_at word i == 1) || (bit_at more i == 1))
either_bit word more i = ap (λ x. x == 1) (bit_at_or word more i) ∙ or_test (bit_at word i) (bit_at more i) (bit_at-lt word i) (bit_at-lt more i)

-- the ones below a place
ones_out : (at i : ℕ) → at < 64 → i < 64 → bit_at (18446744073709551615 - 18446744073709551615 * 2 ^ at % 18446744073709551616) i ≡ 1 - bit_at (2 ^ 64 - 2 ^ at) i
ones_out at i l b =
    bit_at_not w64 (18446744073709551615 * 2 ^ at % 18446744073709551616) i (omega arith) b
    ∙ ap (λ m. 1 - bit_at m i) (ones_shl 64 at (omega arith))

pub below_kept : (word at i : ℕ) → at < 64 → i < at → bit_at (bit_and word (18446744073709551615 - 18446744073709551615 * 2 ^ at % 18446744073709551616)) i ≡ bit_at word i
below_kept word at i l b =
    bit_at_and word _ i ∙ omega (arith, ones_out at i l (omega (arith, l, b)), bit_at_mask_below at 64 i b, bit_at-lt word i)

pub below_none : (word at i : ℕ) → at < 64 → at ≤ i → i < 64 → bit_at (bit_and word (18446744073709551615 - 18446744073709551615 * 2 ^ at % 18446744073709551616)) i ≡ 0
below_none word at i l from b =
    bit_at_and word _ i ∙ omega (arith, ones_out at i l b, bit_at_mask_inside at 64 i from b)

-- the first `n` words have the ones of others beside their own
pub record IsJoined (was words : List ℕ) (In : ℕ → Bool) (n : ℕ) : Type 0 where
  pub long : length words ≡ length was
  pub done : (k : ℕ) → k < n * 64 → in_words words k ≡ (in_words was k || In k)
  pub left : (k : ℕ) → n * 64 ≤ k → in_words words k ≡ in_words was k

pub join_open : (was : List ℕ) (In : ℕ → Bool) → IsJoined was was In 0
join_open was In = record {
  long = refl;
  done = λ k lt. absurd (omega (arith, lt));
  left = λ k le. refl;
}

in_other : (words : List ℕ) (n w k : ℕ) → k / 64 ≢ n → in_words (set words n w) k ≡ in_words words k
in_other words n w k ne = ap (λ x. bit_at x (k % 64) == 1) (get_or-set_other words n (k / 64) w 0 ne)

pub join_on : (was words : List ℕ) (In : ℕ → Bool) (n w : ℕ) → IsJoined was words In n → n < length words → ((i : ℕ) → i < 64 → (bit_at w i == 1) ≡ ((bit_at (get_or words n 0) i == 1) || In (n * 64 + i))) → IsJoined was (set words n w) In (n + 1)
join_on was words In n w j h bits = record {
  long = length-set words n w ∙ j.long;
  done = λ k lt. elim (cases_lt k (n * 64)) [
    | inl before ↦ in_other words n w k (λ e. absurd (omega (arith, e, before))) ∙ j.done k before
    | inr after ↦ here k (omega (arith, lt, after)) after
  ];
  left = λ k le. in_other words n w k (λ e. absurd (omega (arith, e, le))) ∙ j.left k (omega (arith, le));
}
  where
    here : (k : ℕ) → k / 64 ≡ n → n * 64 ≤ k → in_words (set words n w) k ≡ (in_words was k || In k)
    here k e after =
        let number : n * 64 + k % 64 ≡ k = omega (arith, e) in
        ap (λ x. bit_at (get_or (set words n w) x 0) (k % 64) == 1) e
        ∙ ap (λ x. bit_at x (k % 64) == 1) (get_or-set_same words n w 0 h)
        ∙ bits (k % 64) (omega arith)
        ∙ ap (λ x. (bit_at (get_or words n 0) (k % 64) == 1) || In x) number
        ∙ ap (λ x. (bit_at (get_or words x 0) (k % 64) == 1) || In k) (sym e)
        ∙ ap (λ b. b || In k) (j.left k after)

-- the first `n` words are those of others
pub record IsCopied (was words : List ℕ) (In : ℕ → Bool) (n : ℕ) : Type 0 where
  pub long : length words ≡ length was
  pub done : (k : ℕ) → k < n * 64 → in_words words k ≡ In k

pub copy_open : (was : List ℕ) (In : ℕ → Bool) → IsCopied was was In 0
copy_open was In = record {
  long = refl;
  done = λ k lt. absurd (omega (arith, lt));
}

pub copy_on : (was words : List ℕ) (In : ℕ → Bool) (n w : ℕ) → IsCopied was words In n → n < length words → ((i : ℕ) → i < 64 → (bit_at w i == 1) ≡ In (n * 64 + i)) → IsCopied was (set words n w) In (n + 1)
copy_on was words In n w j h bits = record {
  long = length-set words n w ∙ j.long;
  done = λ k lt. elim (cases_lt k (n * 64)) [
    | inl before ↦ in_other words n w k (λ e. absurd (omega (arith, e, before))) ∙ j.done k before
    | inr after ↦ here k (omega (arith, lt, after))
  ];
}
  where
    here : (k : ℕ) → k / 64 ≡ n → in_words (set words n w) k ≡ In k
    here k e =
        let number : n * 64 + k % 64 ≡ k = omega (arith, e) in
        ap (λ x. bit_at (get_or (set words n w) x 0) (k % 64) == 1) e
        ∙ ap (λ x. bit_at x (k % 64) == 1) (get_or-set_same words n w 0 h)
        ∙ bits (k % 64) (omega arith)
        ∙ ap In number
