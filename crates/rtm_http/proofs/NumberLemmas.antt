-- Numbers of at most 18 decimal digits.
use Rattle.std.proofs.Common.{◌≡◌, ℕ, ◌+◌, ◌*◌, ◌<◌, ◌≤◌, ◌^◌, ◌-◌, true, arith, add-one}
use Rattle.std.proofs.Common.{List, [], ◌∷◌, zero, suc, length, get_or, sym, ap, subst, ◌∙◌}
use Rattle.std.specs.Fmt.{decimal}
use Rattle.std.specs.Str.Parse.{AllDigits, digits_value}
use Rattle.std.proofs.lemmas.Fmt.{decimal_is_IsNumeral, length-decimal-le}
use Rattle.rtm_http.specs.Lines.{IsNumber}
use Rattle.rtm_http.specs.Route.{IsTime}
use Rattle.std.specs.Char.{is_ascii_digit, digit_value}
use Rattle.std.proofs.lemmas.Bool.Decides.{nat_tests}
use Rattle.std.proofs.Math.Nat.{pow-suc, pow-le-pow_right}

-- a number of at most 17 digits
pub number_fits : (n i : ℕ) → n < 10 ^ i → i ≤ 17 → n < 10 ^ 17
number_fits n i below few =
    let most : 10 ^ i ≤ 10 ^ 17 = pow-le-pow_right {n = 10} (omega arith) few in
    omega arith

-- one more digit
pub number_more : (n d i : ℕ) → n < 10 ^ i → d ≤ 9 → n * 10 + d < 10 ^ (i + 1)
number_more n d i below digit = rw (add-one, pow-suc) (omega arith)

-- an ASCII digit is one of the codes 48 to 57
pub digit_range : (b : ℕ) → is_ascii_digit b ≡ true → (48 ≤ b) × (b ≤ 57)
digit_range b is = (grind (arith, nat_tests), grind (arith, nat_tests))

-- and its value is its distance from 48
pub digit_is : (b : ℕ) → is_ascii_digit b ≡ true → digit_value b ≡ b - 48
digit_is b is = grind (arith, nat_tests, digit_range)

-- a byte whose value is below ten is an ASCII digit
low_digit : (b : ℕ) → digit_value b < 10 → is_ascii_digit b ≡ true
low_digit b low = grind (arith, nat_tests)

digit_at : (ds : List ℕ) → AllDigits 10 ds → (k : ℕ) → k < length ds → is_ascii_digit (get_or ds k 0) ≡ true
digit_at [] all k below = absurd (omega arith)
digit_at (d ∷ ds) all zero below = low_digit d all.0
digit_at (d ∷ ds) all (suc k) below = digit_at ds all.1 k (omega arith)

-- a time in decimal digits is a number of at most 18 digits
time_digits : (time : ℕ) → time ≤ 500000000000 → IsNumber (decimal time)
time_digits time within =
    let numeral = (decimal_is_IsNumeral time (omega arith)).0 in
    let few : length (decimal time) ≤ 12 = length-decimal-le 12 time (omega arith) (omega arith) (omega arith) in
    record { some = numeral.0; few = omega arith; digits = λ k below. digit_at (decimal time) numeral.1 k below }

pub time_number : (text : List ℕ) (time : ℕ) → IsTime text time → IsNumber text × (digits_value 10 text ≡ time)
time_number text time is = (
  subst IsNumber (sym is.digits) (time_digits time is.within),
  ap (digits_value 10) is.digits ∙ (decimal_is_IsNumeral time (omega (arith, is.within))).1,
)
