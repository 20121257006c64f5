-- Fields of words, and sign extension.
use Rattle.std.proofs.Common.{◌≡◌, ℕ, ◌+◌, ◌-◌, ◌*◌, ◌/◌, ◌%◌, ◌^◌, ◌<◌, ◌≤◌, ◌∙◌, ap, sym, arith, add_comm}
use Rattle.std.specs.Int.RustNames.{bit_or}
use Rattle.std.proofs.lemmas.Nat.{pow-add, mod-pow-add, shr-shr, shr_below, or_shifted, or_comm}
use Rattle.std.proofs.Math.Nat.{mul_comm, mul-sub}
use Rattle.rv_isa.specs.Bits.{field}

-- a field is its high part and its low part
pub field-split : (low width more word : ℕ) → field low (more + width) word ≡ field (low + width) more word * 2 ^ width + field low width word
field-split low width more word = mod-pow-add (word / 2 ^ low) more width ∙ ap (λ q. q % 2 ^ more * 2 ^ width + word / 2 ^ low % 2 ^ width) (shr-shr word low width)

-- the sign bit of a number of `sign + 1` bits is 0 or 1
pub sign_bit : (sign bits : ℕ) → bits < 2 ^ (sign + 1) → bits / 2 ^ sign ≤ 1
sign_bit sign bits h = let e : bits < 2 ^ (1 + sign) = rw (add_comm 1 sign) h in let k : bits / 2 ^ sign < 2 ^ 1 = shr_below bits 1 sign e in omega arith

-- ones above a number's bits
pub or_high_ones : (k bits : ℕ) → k ≤ 32 → bits < 2 ^ k → bit_or bits (2 ^ 32 - 2 ^ k) ≡ bits + (2 ^ 32 - 2 ^ k)
or_high_ones k bits h below =
    let e : 2 ^ 32 ≡ 2 ^ (32 - k) * 2 ^ k = ap (λ n. 2 ^ n) {x = 32} {y = (32 - k) + k} (omega arith) ∙ pow-add 2 (32 - k) k in
    let m : (2 ^ (32 - k) - 1) * 2 ^ k ≡ 2 ^ 32 - 2 ^ k = mul_comm (2 ^ (32 - k) - 1) (2 ^ k) ∙ mul-sub (2 ^ k) (2 ^ (32 - k)) 1 ∙ omega (arith, e, mul_comm (2 ^ k) (2 ^ (32 - k))) in
    or_comm bits (2 ^ 32 - 2 ^ k) ∙ ap (λ n. bit_or n bits) (sym m) ∙ or_shifted (2 ^ (32 - k) - 1) k bits below ∙ ap (λ n. n + bits) m ∙ add_comm (2 ^ 32 - 2 ^ k) bits

-- the word of FENCE
pub fence_word : (w : ℕ) → w < 2 ^ 32 → field 0 7 w ≡ 15 → field 7 5 w ≡ 0 → field 12 3 w ≡ 0 → field 15 5 w ≡ 0 → field 20 5 w ≡ 0 → field 25 7 w ≡ 0 → w ≡ 15
fence_word w below a b c d e f = omega arith
