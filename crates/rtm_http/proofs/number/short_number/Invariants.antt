use Rattle.std.proofs.Common.{◌≡◌, ℕ, ◌<◌, ◌^◌, IsTrue, take, slice_index}
use Rattle.std.specs.Char.{is_ascii_digit}
use Rattle.std.specs.Str.Parse.{digits_value}
use Rattle.rtm_http.proofs.number.short_number.Given as goal

abbrev pub invariant-loop-digit : goal.invariant-loop-digit
invariant-loop-digit l = record {
  value : l.number ≡ digits_value 10 (take l.digit-index l.text);
  below : l.number < 10 ^ l.digit-index;
  digits : (k : ℕ) → k < l.digit-index → IsTrue (is_ascii_digit (slice_index l.text k));
}
