-- The header lines of a head, and what they ask for.
use Rattle.std.specs.Prelude.{◌≡◌, ℕ, ◌<◌, ◌≤◌, ◌==◌, ◌||◌, ◌&&◌, Bool, IsTrue, cond, List, [], ◌∷◌, length, map, codes, EachIndex, slice_index}
use Rattle.std.specs.Char.{is_ascii_digit}
use Rattle.std.specs.List.{list_any, slice_split}
use Rattle.std.specs.Str.{str_eq_ignore_ascii_case}
use Rattle.std.specs.Str.Parse.{digits_value}
use Rattle.httparse.specs.Grammar.{RequestHead, trim_ows}
use Rattle.httparse.specs.Spans.{name_and_value}
use Rattle.rtm_http.specs.declared.lines.Values.{Values}
use Rattle.rtm_http.specs.declared.lines.Values.TheVariants.{None, One, Many}

-- a header line: its name, and its value without the white space around it
abbrev pub Line : Type 0
Line = List ℕ × List ℕ

abbrev pub lines_of : RequestHead → List Line
lines_of h = map name_and_value h.fields

-- the line has this name, whatever the case of its ASCII letters
abbrev pub is_named : List ℕ → Line → Bool
is_named name line = str_eq_ignore_ascii_case line.0 name

-- the values of the lines with this name, in order
abbrev pub values_of : List ℕ → List Line → List (List ℕ)
values_of name [] = []
values_of name (line ∷ lines) = cond (is_named name line) (line.1 ∷ values_of name lines) (values_of name lines)

-- these values are none, one or many
abbrev pub Lists : List (List ℕ) → Values → Type 0
Lists values None = values ≡ []
Lists values (One value) = values ≡ value.now ∷ []
Lists values Many = 2 ≤ length values

-- a number is written in 1 to 18 decimal digits
pub record IsNumber (text : List ℕ) : Type 0 where
  pub some : 0 < length text
  pub few : length text ≤ 18
  pub digits : EachIndex text (λ k. IsTrue (is_ascii_digit (slice_index text k)))

-- the size of the body that these values of Content-Length give: 0 where there is none; two give none
abbrev pub HasSize : List (List ℕ) → ℕ → Type 0
HasSize [] size = size ≡ 0
HasSize (text ∷ []) size = IsNumber text × (size ≡ digits_value 10 text)
HasSize (text ∷ other ∷ more) size = ⊥

-- the rules on header lines: there is no Transfer-Encoding, and Content-Length gives the size of the body
pub record KeepsRules (lines : List Line) (size : ℕ) : Type 0 where
  pub no_coding : values_of (codes "transfer-encoding") lines ≡ []
  pub length : HasSize (values_of (codes "content-length") lines) size

-- one of the elements, which commas part, is `close`, whatever the case of its letters
abbrev pub is_close : List ℕ → Bool
is_close element = str_eq_ignore_ascii_case (trim_ows element) (codes "close")

abbrev pub has_close : List ℕ → Bool
has_close value = list_any is_close (slice_split (λ b. b == 44) value)

-- a Connection line that has the element `close`
abbrev pub is_close_line : Line → Bool
is_close_line line = is_named (codes "connection") line && has_close line.1

abbrev pub asks_to_close : List Line → Bool
asks_to_close lines = list_any is_close_line lines

-- the connection is closed after the response: HTTP/1.0, or the head asks for it
abbrev pub closes : RequestHead → Bool
closes h = h.minor == 0 || asks_to_close (lines_of h)
