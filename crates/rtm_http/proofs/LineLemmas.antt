-- Values of header lines, one line after another.
use Rattle.std.proofs.Common.{◌≡◌, ℕ, ◌+◌, ◌<◌, Bool, true, false, cond, List, [], ◌∷◌, ◌++◌, length, take, get_or, map, refl, ap, ◌∙◌, append-nil}
use Rattle.std.proofs.Math.ListN.{get_or-map}
use Rattle.std.proofs.lemmas.List.{take_more, map_push, length-map}
use Rattle.std.proofs.lemmas.List.Folds.{list_any-append, list_any_at}
use Rattle.httparse.specs.declared.spans.HeaderSpan.{HeaderSpan}
use Rattle.httparse.specs.Spans.{header_bytes}
use Rattle.rtm_http.specs.Lines.{Line, is_named, values_of, is_close_line, asks_to_close}

-- the value of a line, if it has the name
abbrev pub value_if : Bool → List ℕ → List (List ℕ)
value_if true value = value ∷ []
value_if false value = []

one_value : (t : Bool) (value : List ℕ) → cond t (value ∷ []) [] ≡ value_if t value
one_value true value = refl
one_value false value = refl

more_values : (t : Bool) (value : List ℕ) (xs ys zs : List (List ℕ)) → xs ≡ ys ++ zs → cond t (value ∷ xs) xs ≡ cond t (value ∷ ys) ys ++ zs
more_values true value xs ys zs same = ap (λ l. value ∷ l) same
more_values false value xs ys zs same = same

pub values_of-push : (name : List ℕ) (lines : List Line) (line : Line) → values_of name (lines ++ line ∷ []) ≡ values_of name lines ++ value_if (is_named name line) line.1
values_of-push name [] line = one_value (is_named name line) line.1
values_of-push name (first ∷ lines) line = more_values (is_named name first) first.1 _ _ _ (values_of-push name lines line)

-- one line more, which has the name
pub values_more_yes : (name bytes : List ℕ) (lines : List HeaderSpan) (i : ℕ) (d : HeaderSpan) → i < length lines → is_named name (header_bytes bytes (get_or lines i d)) ≡ true → values_of name (map (header_bytes bytes) (take (i + 1) lines)) ≡ values_of name (map (header_bytes bytes) (take i lines)) ++ (header_bytes bytes (get_or lines i d)).1 ∷ []
values_more_yes name bytes lines i d below named =
    rw (take_more lines i d below, map_push, values_of-push, named)

-- or does not have it
pub values_more_no : (name bytes : List ℕ) (lines : List HeaderSpan) (i : ℕ) (d : HeaderSpan) → i < length lines → is_named name (header_bytes bytes (get_or lines i d)) ≡ false → values_of name (map (header_bytes bytes) (take (i + 1) lines)) ≡ values_of name (map (header_bytes bytes) (take i lines))
values_more_no name bytes lines i d below other =
    rw (take_more lines i d below, map_push, values_of-push, other, append-nil)

-- one line more that does not ask to close
pub asks_more : (bytes : List ℕ) (lines : List HeaderSpan) (i : ℕ) (d : HeaderSpan) → i < length lines → asks_to_close (map (header_bytes bytes) (take i lines)) ≡ false → is_close_line (header_bytes bytes (get_or lines i d)) ≡ false → asks_to_close (map (header_bytes bytes) (take (i + 1) lines)) ≡ false
asks_more bytes lines i d below before other =
    rw (take_more lines i d below, map_push, list_any-append, before, other)

-- a line that asks to close
pub asks_at : (bytes : List ℕ) (lines : List HeaderSpan) (i : ℕ) (d : HeaderSpan) → i < length lines → is_close_line (header_bytes bytes (get_or lines i d)) ≡ true → asks_to_close (map (header_bytes bytes) lines) ≡ true
asks_at bytes lines i d below here =
    list_any_at is_close_line (map (header_bytes bytes) lines) i (header_bytes bytes d) (rw length-map below) (ap is_close_line (get_or-map (header_bytes bytes) lines i d) ∙ here)
