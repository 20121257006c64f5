-- Where a head ends, for one that comes in pieces.
use Rattle.std.proofs.Common.{◌≡◌, ℕ, ◌+◌, ◌-◌, ◌<◌, ◌≤◌, inl, inr, false, List, [], ◌∷◌, ◌++◌, length, take, refl, sym, ap, subst, ◌∙◌, arith, append_assoc, length-append}
use Rattle.std.specs.Prelude.{codes, IsTrue, Option, Some}
use Rattle.std.specs.List.{All}
use Rattle.std.proofs.Math.Seq.{take-append_seam}
use Rattle.rtm_http.proofs.HeadLemmas.{take_behind}
use Rattle.std.proofs.lemmas.Bool.{cases_lt}
use Rattle.std.proofs.lemmas.List.{take-append-le}
use Rattle.std.proofs.lemmas.Bool.Decides.{nat_tests}
use Rattle.std.proofs.lemmas.List.Elements.{All-head, All-tail}
use Rattle.httparse.specs.Grammar.{LineEnd, crlf, lf, print_end, print_blank, print_version, Field, print_field, IsField, print_section, RequestHead, print_request, IsRequestHead, ReadsRequest, HasNoRequest, is_value_byte, AllPass}
use Rattle.httparse.specs.Pieces.{is_newline}
use Rattle.httparse.proofs.GrammarLemmas.{cons-append}
use Rattle.rtm_http.specs.Pieces.{EndsLine, IsHeadEnd, HasSeen}

ends-append : (before text : List ℕ) → EndsLine text → EndsLine (before ++ text)
ends-append before text ends = record {
  line = before ++ ends.line;
  last = ends.last;
  end = ends.end;
  is = ap (λ t. before ++ t) ends.is ∙ simp (append_assoc, cons-append);
  other = ends.other;
}

value_is_other : (b : ℕ) → IsTrue (is_value_byte b) → is_newline b ≡ false
value_is_other b is = grind (arith, nat_tests)

-- a byte that is no line end, and a value behind it, on a line
value_line : (c : ℕ) (raw : List ℕ) (end : LineEnd) → is_newline c ≡ false → AllPass is_value_byte raw → EndsLine (c ∷ raw ++ print_end end)
value_line c [] end other all = record { line = []; last = c; end = end; is = refl; other = other }
value_line c (r ∷ raw) end other all =
    ends-append (c ∷ []) (r ∷ raw ++ print_end end)
    (value_line r raw end (value_is_other r (All-head (λ b. IsTrue (is_value_byte b)) r raw all)) (All-tail (λ b. IsTrue (is_value_byte b)) r raw all))

field_line : (f : Field) → IsField f → EndsLine (print_field f)
field_line f is =
    subst EndsLine (sym (append_assoc f.name (58 ∷ f.raw) (print_end f.end)))
    (ends-append f.name (58 ∷ f.raw ++ print_end f.end) (value_line 58 f.raw f.end refl is.raw))

digit_other : (minor : ℕ) → minor ≤ 1 → is_newline (48 + minor) ≡ false
digit_other minor few = grind (arith, nat_tests)

version_line : (minor : ℕ) (end : LineEnd) → minor ≤ 1 → EndsLine (print_version minor ++ print_end end)
version_line minor end few = record { line = codes "HTTP/1."; last = 48 + minor; end = end; is = refl; other = digit_other minor few }

-- the empty line behind header lines ends a head
section_end : (before : List ℕ) (fields : List Field) (last : LineEnd) → EndsLine before → All IsField fields → IsHeadEnd (before ++ print_section fields last)
section_end before [] last ends all = record {
  line = ends.line;
  last = ends.last;
  first_end = ends.end;
  second_end = last;
  is = ap (λ t. t ++ print_end last) ends.is;
  other = ends.other;
}
section_end before (f ∷ fields) last ends all =
    subst IsHeadEnd (simp append_assoc)
    (section_end (before ++ print_field f) fields last (ends-append before (print_field f) (field_line f (All-head IsField f fields all))) (All-tail IsField f fields all))

pub request_end : (h : RequestHead) → IsRequestHead h → IsHeadEnd (print_request h)
unfolding print_request
request_end h is =
    let line = ends-append (32 ∷ []) _ (version_line h.minor h.line_end is.minor) in
    let target = ends-append (32 ∷ h.target) _ line in
    let method = ends-append h.method _ target in
    let start = ends-append (print_blank h.blank) _ method in
    subst IsHeadEnd (regroup (print_blank h.blank) h.method h.target (print_version h.minor) (print_end h.line_end) (print_section h.fields h.last))
    (section_end _ h.fields h.last start is.fields)
  where
    regroup : (a b c v e s : List ℕ) → (a ++ (b ++ 32 ∷ (c ++ 32 ∷ (v ++ e)))) ++ s ≡ a ++ b ++ 32 ∷ c ++ 32 ∷ v ++ e ++ s
    regroup a b c v e s = simp (append_assoc, cons-append)

-- a head that was read among the bytes ends one of their beginnings
pub reads_end : (bytes : List ℕ) (h : RequestHead) (rest : List ℕ) → ReadsRequest bytes h rest → IsHeadEnd (take (length (print_request h)) bytes)
reads_end bytes h rest reads =
    subst IsHeadEnd (sym (ap (take (length (print_request h))) reads.1 ∙ take-append_seam (print_request h) rest)) (request_end h reads.0)

head_some : (h : RequestHead) → IsRequestHead h → 0 < length (print_request h)
head_some h is = some_end (print_request h) (request_end h is)
  where
    some_end : (text : List ℕ) → IsHeadEnd text → 0 < length text
    some_end text ends = omega (arith, ap length ends.is, length-append ((ends.line ++ ends.last ∷ []) ++ print_end ends.first_end) (print_end ends.second_end), length-append (ends.line ++ ends.last ∷ []) (print_end ends.first_end), length-append ends.line (ends.last ∷ []))

-- a head that ends among the first bytes is read from them alone
reads_seen : (bytes : List ℕ) (seen : ℕ) (h : RequestHead) (rest : List ℕ) → ReadsRequest bytes h rest → length (print_request h) ≤ seen → (more : List ℕ) × ReadsRequest (take seen bytes) h more
reads_seen bytes seen h rest reads fits = (
  take (seen - length (print_request h)) rest,
  (reads.0, ap (take seen) reads.1 ∙ take_behind seen (print_request h) rest fits),
)

-- where no head ended before, and none ends in what came since, there is none
pub no_head_yet : (bytes : List ℕ) (seen : ℕ) → HasNoRequest (take seen bytes)
    → ((k : ℕ) → seen ≤ k → k < length bytes → IsHeadEnd (take (k + 1) bytes) → ⊥) → HasNoRequest bytes
no_head_yet bytes seen none no_end h rest reads =
    elim (cases_lt seen (length (print_request h))) [
      | inl later ↦
          let some = head_some h reads.0 in
          let len : length bytes ≡ length (print_request h) + length rest = ap length reads.1 ∙ length-append (print_request h) rest in
          let place : length (print_request h) - 1 + 1 ≡ length (print_request h) = omega arith in
          no_end (length (print_request h) - 1) (omega arith) (omega arith)
          (subst (λ k. IsHeadEnd (take k bytes)) (sym place) (reads_end bytes h rest reads))
      | inr before ↦ let old = reads_seen bytes seen h rest reads before in none h old.0 old.1
    ]

-- no bytes are no head
pub no_head_of_none : HasNoRequest []
no_head_of_none h rest reads =
    omega (arith, head_some h reads.0, ap length reads.1, length-append (print_request h) rest)

-- the last byte of a list, and those before it
snoc_same : (xs ys : List ℕ) (a b : ℕ) → xs ++ a ∷ [] ≡ ys ++ b ∷ [] → (xs ≡ ys) × (a ≡ b)
snoc_same [] [] a b e = (refl, cc)
snoc_same [] (y ∷ ys) a b e = absurd (omega (arith, ap length e, length-append ys (b ∷ [])))
snoc_same (x ∷ xs) [] a b e = absurd (omega (arith, ap length e, length-append xs (a ∷ [])))
snoc_same (x ∷ xs) (y ∷ ys) a b e =
    let tail : xs ++ a ∷ [] ≡ ys ++ b ∷ [] = cc in
    let head : x ≡ y = cc in
    let same = snoc_same xs ys a b tail in
    (cc, same.1)

-- what is left of a text without its last byte, which ends a line
abbrev pub IsLeft : LineEnd → List ℕ → List ℕ → Type 0
IsLeft lf text rest = rest ≡ text
IsLeft crlf text rest = rest ≡ text ++ 13 ∷ []

pub left_of : (end : LineEnd) (text rest : List ℕ) (last : ℕ) → rest ++ last ∷ [] ≡ text ++ print_end end → (last ≡ 10) × IsLeft end text rest
left_of lf text rest last e = let same = snoc_same rest text last 10 e in (same.1, same.0)
left_of crlf text rest last e =
    let same = snoc_same rest (text ++ 13 ∷ []) last 10 (e ∙ sym (append_assoc text (13 ∷ []) (10 ∷ []))) in (same.1, same.0)

-- a carriage return before it belongs to the line end
pub left_with_return : (end : LineEnd) (line rest before : List ℕ) (b : ℕ) → (b ≡ 13 → ⊥) → IsLeft end (line ++ b ∷ []) rest → rest ≡ before ++ 13 ∷ [] → before ≡ line ++ b ∷ []
left_with_return lf line rest before b other left is = absurd (other (sym (snoc_same before line 13 b (sym is ∙ left)).1))
left_with_return crlf line rest before b other left is = (snoc_same before (line ++ b ∷ []) 13 13 (sym is ∙ left)).0

-- and any other byte to the line
pub left_without_return : (end : LineEnd) (line rest before : List ℕ) (b c : ℕ) → (c ≡ 13 → ⊥) → IsLeft end (line ++ b ∷ []) rest → rest ≡ before ++ c ∷ [] → rest ≡ line ++ b ∷ []
left_without_return lf line rest before b c other left is = left
left_without_return crlf line rest before b c other left is = absurd (other (snoc_same before (line ++ b ∷ []) c 13 (sym is ∙ left)).1)

pub left_some : (end : LineEnd) (line rest : List ℕ) (b : ℕ) → IsLeft end (line ++ b ∷ []) rest → 0 < length rest
left_some lf line rest b left = omega (arith, ap length left, length-append line (b ∷ []))
left_some crlf line rest b left = omega (arith, ap length left, length-append (line ++ b ∷ []) (13 ∷ []), length-append line (b ∷ []))

-- what is read as the text before its line end
abbrev pub IsBefore : List ℕ → Option (List ℕ) → Type 0
IsBefore text read = (line : List ℕ) (last : ℕ) (end : LineEnd) → (last ≡ 13 → ⊥) → text ≡ (line ++ last ∷ []) ++ print_end end → read ≡ Some (line ++ last ∷ [])

line_of : (end : LineEnd) (text : List ℕ) → (line : List ℕ) × (text ++ print_end end ≡ line ++ 10 ∷ [])
line_of lf text = (text, refl)
line_of crlf text = (text ++ 13 ∷ [], sym (append_assoc text (13 ∷ []) (10 ∷ [])))

no_return : (b : ℕ) → is_newline b ≡ false → b ≡ 13 → ⊥
no_return b other is = grind (arith, nat_tests)

-- before the empty line of a head stand its other lines
pub before_empty : (text : List ℕ) (read : Option (List ℕ)) → IsBefore text read → (ends : IsHeadEnd text) → read ≡ Some ((ends.line ++ ends.last ∷ []) ++ print_end ends.first_end)
before_empty text read before ends =
    let lines = line_of ends.first_end (ends.line ++ ends.last ∷ []) in
    before lines.0 10 ends.second_end (λ e. omega (arith, e)) (ends.is ∙ ap (λ l. l ++ print_end ends.second_end) lines.1) ∙ ap Some (sym lines.1)

-- the last of which has a last byte
pub before_last : (text lines : List ℕ) (read : Option (List ℕ)) → (ends : IsHeadEnd text) → lines ≡ (ends.line ++ ends.last ∷ []) ++ print_end ends.first_end → IsBefore lines read → read ≡ Some (ends.line ++ ends.last ∷ [])
before_last text lines read ends is before =
    before ends.line ends.last ends.first_end (no_return ends.last ends.other) is

pub last_byte : (text line rest : List ℕ) (byte : ℕ) → (ends : IsHeadEnd text) → line ≡ ends.line ++ ends.last ∷ [] → line ≡ rest ++ byte ∷ [] → is_newline byte ≡ false
last_byte text line rest byte ends is split =
    ap is_newline (snoc_same rest ends.line byte ends.last (sym split ∙ is)).1 ∙ ends.other

pub some_same : {a b : List ℕ} → Some a ≡ Some b → a ≡ b
some_same same = cc

-- what was seen of the bytes stands when more of them come
pub HasSeen-append : (seen : ℕ) (bytes more : List ℕ) → HasSeen seen bytes → HasSeen seen (bytes ++ more)
HasSeen-append seen bytes more was = record {
  within = omega (arith, was.within, length-append bytes more);
  none = subst HasNoRequest (sym (take-append-le seen bytes more was.within)) was.none;
}
