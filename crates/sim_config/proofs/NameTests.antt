-- The test of a name and the fact that it decides.
use Rattle.std.proofs.Common.{◌≡◌, ℕ, ◌<◌, ◌↔◌, true, false, IsSome, IfSome, List, length, Option, Some, None, nat_lt, nat_le, refl, ◌&&◌, if◌then◌else◌, get_or, arith}
use Rattle.std.specs.Prelude.{IsUtf8}
use Rattle.std.proofs.lemmas.Str.{IsUtf8-from_ascii}
use Rattle.std.proofs.lemmas.Str.Ascii.{IsAscii-from_all}
use Rattle.std.specs.List.{list_all}
use Rattle.std.proofs.lemmas.Bool.{and_parts, false≢true}
use Rattle.std.proofs.lemmas.Bool.Decides.{nat_tests}
use Rattle.std.proofs.lemmas.List.Sums.{AllPass-from_list_all, list_all-from_AllPass}
use Rattle.sim_base.specs.Name.{is_name_byte, IsName}
use Rattle.sim_config.specs.Values.{is_name, name_of}

pub is_name-from_IsName : (text : List ℕ) → IsName text → is_name text ≡ true
is_name-from_IsName text h =
    let bytes = list_all-from_AllPass is_name_byte text h.2 in
    let some : nat_lt 0 (length text) ≡ true = grind (arith, nat_tests, h.0) in
    let short : nat_le (length text) 32 ≡ true = grind (arith, nat_tests, h.1) in
    rw (some, short, bytes)

pub IsName-from_is_name : (text : List ℕ) → is_name text ≡ true → IsName text
IsName-from_is_name text h =
    let p = and_parts (nat_lt 0 (length text) && nat_le (length text) 32) (list_all is_name_byte text) h in
    let q = and_parts (nat_lt 0 (length text)) (nat_le (length text) 32) p.0 in
    (grind (arith, nat_tests, q.0), grind (arith, nat_tests, q.1), AllPass-from_list_all is_name_byte text p.1)

-- a name is read where the test holds, as the text that it is
pub name_of-read : (text : List ℕ) (r : Option (List ℕ)) → (IsSome r ↔ IsName text) → IfSome r (λ name. name ≡ text) → r ≡ name_of text
name_of-read text None shape same =
    elim (is_name text) as (λ b. (b ≡ true → IsName text) → None ≡ (if b then Some text else None)) [
      | true ↦ λ h. absurd (false≢true (shape.1 (h refl)))
      | false ↦ λ _. refl
    ] (IsName-from_is_name text)
name_of-read text (Some name) shape same = rw (is_name-from_IsName text (shape.0 refl), same)

is_name_byte-ascii : (b : ℕ) → is_name_byte b ≡ true → b < 128
is_name_byte-ascii b h = grind (arith, nat_tests)

pub IsUtf8-from_IsName : (text : List ℕ) → IsName text → IsUtf8 text
IsUtf8-from_IsName text h = IsUtf8-from_ascii text (IsAscii-from_all text (λ k d below. is_name_byte-ascii (get_or text k d) (h.2 k d below)))
