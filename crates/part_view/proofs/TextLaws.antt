-- A name is UTF-8.
use Rattle.std.proofs.Common.{ℕ, ◌<◌, List, arith}
use Rattle.std.proofs.lemmas.Bool.Decides.{nat_tests}
use Rattle.std.proofs.lemmas.Str.{IsUtf8-from_ascii}
use Rattle.std.proofs.lemmas.Str.Ascii.{IsAscii-from_all}
use Rattle.std.specs.Prelude.{IsUtf8, IsTrue}
use Rattle.sim_base.specs.Name.{IsName, is_name_byte}

name_byte_low : (b : ℕ) → IsTrue (is_name_byte b) → b < 128
name_byte_low b h = grind (arith, nat_tests, h)

pub name_utf8 : (text : List ℕ) → IsName text → IsUtf8 text
name_utf8 text is = IsUtf8-from_ascii text (IsAscii-from_all text (λ k d within. name_byte_low _ (is.2 k d within)))
