use Rattle.std.proofs.Common.{◌≡◌, ◌<◌, true, length, get_or, arith, below_more, sym, ◌∙◌}
use Rattle.std.proofs.lemmas.Int.Digits.{digits_value_more}
use Rattle.std.specs.Char.{is_ascii_digit}
use Rattle.rtm_http.proofs.NumberLemmas.{number_fits, number_more, digit_range, digit_is}
use Rattle.rtm_http.proofs.number.short_number.Goals as goal

pub overflow_mul-number : goal.overflow_mul-number
overflow_mul-number c =
    let fits = number_fits c.loop-digit.number c.loop-digit.digit-index c.loop-digit.invariant.below (omega arith) in
    omega arith

pub overflow_add-number : goal.overflow_add-number
overflow_add-number c =
    let byte = get_or c.args.text.now c.loop-digit.digit-index 0 in
    let fits = number_fits c.loop-digit.number c.loop-digit.digit-index c.loop-digit.invariant.below (omega arith) in
    let is : is_ascii_digit byte ≡ true = sym c.is_ascii_digit.ensures.value ∙ c.if-not-is_ascii_digit.false in
    omega (arith, digit_range byte is, c.from.ensures)

pub loop-digit-preserved : goal.loop-digit-preserved
loop-digit-preserved c =
    let i = c.loop-digit.digit-index in
    let byte = get_or c.args.text.now i 0 in
    let is : is_ascii_digit byte ≡ true = sym c.is_ascii_digit.ensures.value ∙ c.if-not-is_ascii_digit.false in
    let range = digit_range byte is in
    let below : i < length c.args.text.now = c.loop-digit-test.true in
    record {
      value = cc (digits_value_more 10 c.args.text.now i below, digit_is byte is, c.loop-digit.invariant.value, c.from.ensures);
      below = number_more c.loop-digit.number c.from.result i c.loop-digit.invariant.below (omega (arith, c.from.ensures));
      digits = below_more _ _ c.loop-digit.invariant.digits is;
    }
