-- Segments of paths, as the router cuts them.
use Rattle.std.proofs.Common.{◌≡◌, ℕ, zero, suc, ◌+◌, ◌-◌, ◌<◌, ◌≤◌, Bool, true, false, cond, not, ◌&&◌, List, [], ◌∷◌, ◌++◌, length, take, drop, refl, ap, ◌∙◌, arith, ltb, length-append}
use Rattle.std.specs.Prelude.{◌==◌, nat_eq}
use Rattle.std.proofs.Math.Seq.{drop-append_seam}
use Rattle.std.specs.List.{AllPass}
use Rattle.std.specs.Cmp.Lexicographic.{pointwise}
use Rattle.std.proofs.lemmas.Bool.Decides.{nat_tests}
use Rattle.std.proofs.lemmas.List.Elements.{All-nil, All-cons, All-head, All-tail}
use Rattle.matchit.specs.Seek.{segment, has_slash, cuts}

-- a byte that is no slash
abbrev pub is_clear : ℕ → Bool
is_clear b = not (b == 47)

abbrev pub IsClear : List ℕ → Type 0
IsClear text = AllPass is_clear text

pub clear_head : (b : ℕ) (text : List ℕ) → IsClear (b ∷ text) → (b == 47) ≡ false
clear_head b text clear = by_test (b == 47) (All-head (λ x. is_clear x ≡ true) b text clear)
  where
    by_test : (t : Bool) → not t ≡ true → t ≡ false
    by_test true is = cc
    by_test false is = refl

pub clear_tail : (b : ℕ) (text : List ℕ) → IsClear (b ∷ text) → IsClear text
clear_tail b text clear = All-tail (λ x. is_clear x ≡ true) b text clear

clear_cons : (b : ℕ) (text : List ℕ) → (b == 47) ≡ false → IsClear text → IsClear (b ∷ text)
clear_cons b text other clear = All-cons (λ x. is_clear x ≡ true) b text (ap not other) clear

-- a text without a slash has none
pub has_slash-clear : (text : List ℕ) → IsClear text → has_slash text ≡ false
has_slash-clear [] clear = refl
has_slash-clear (b ∷ text) clear = rw (clear_head b text clear, has_slash-clear text (clear_tail b text clear))

pub clear_from_test : (text : List ℕ) → has_slash text ≡ false → IsClear text
clear_from_test [] none = All-nil (λ x. is_clear x ≡ true)
clear_from_test (b ∷ text) none = by_test (clear_from_test text) (b == 47) refl none
  where
    by_test : (has_slash text ≡ false → IsClear text) → (t : Bool) → (b == 47) ≡ t → cond t true (has_slash text) ≡ false → IsClear (b ∷ text)
    by_test later true is none = cc
    by_test later false is none = clear_cons b text is (later none)

-- such a text is one segment
pub segment-clear : (text : List ℕ) → IsClear text → segment text ≡ text
segment-clear [] clear = refl
segment-clear (b ∷ text) clear = rw (clear_head b text clear, segment-clear text (clear_tail b text clear))

-- and behind it the next slash ends its segment
pub segment-append : (text more : List ℕ) → IsClear text → segment (text ++ 47 ∷ more) ≡ text ++ 47 ∷ []
segment-append [] more clear = refl
segment-append (b ∷ text) more clear = rw (clear_head b text clear, segment-append text more (clear_tail b text clear))

-- less than a segment has no slash
pub take-clear : (text : List ℕ) (n : ℕ) → n < length (segment text) → IsClear (take n text)
take-clear [] n below = absurd (omega arith)
take-clear (b ∷ text) zero below = All-nil (λ x. is_clear x ≡ true)
take-clear (b ∷ text) (suc n) below = by_test (take-clear text n) (b == 47) refl below
  where
    by_test : (n < length (segment text) → IsClear (take n text)) → (t : Bool) → (b == 47) ≡ t → suc n < length (cond t (b ∷ []) (b ∷ segment text)) → IsClear (b ∷ take n text)
    by_test later true is below = absurd (omega arith)
    by_test later false is below = clear_cons b (take n text) is (later (omega arith))

-- the segment is no longer than the text
pub length-segment-le : (text : List ℕ) → length (segment text) ≤ length text
length-segment-le [] = omega arith
length-segment-le (b ∷ text) = by_test (length-segment-le text) (b == 47)
  where
    by_test : length (segment text) ≤ length text → (t : Bool) → length (cond t (b ∷ []) (b ∷ segment text)) ≤ length (b ∷ text)
    by_test later true = omega arith
    by_test later false = omega arith

other_way : (b : ℕ) → (b == 47) ≡ false → nat_eq 47 b ≡ false
other_way b other = grind (arith, nat_tests)

and_false : (t s : Bool) → s ≡ false → (t && s) ≡ false
and_false true s is = is
and_false false s is = refl

false_and : (t s : Bool) → t ≡ false → (t && s) ≡ false
false_and t s is = rw is

-- a text without a slash does not end in one
pub ends-clear : (text : List ℕ) → IsClear text → pointwise nat_eq (47 ∷ []) (drop (length text - 1) text) ≡ false
ends-clear [] clear = refl
ends-clear (b ∷ []) clear = false_and (nat_eq 47 b) true (other_way b (clear_head b [] clear))
ends-clear (b ∷ c ∷ text) clear =
    let all : length (b ∷ c ∷ text) - 1 ≡ suc (length text) = omega arith in
    let rest : length text ≡ length (c ∷ text) - 1 = omega arith in
    ap (λ k. pointwise nat_eq (47 ∷ []) (drop k (b ∷ c ∷ text))) all
    ∙ ap (λ k. pointwise nat_eq (47 ∷ []) (drop k (c ∷ text))) rest
    ∙ ends-clear (c ∷ text) (clear_tail b (c ∷ text) clear)

pub cuts-clear : (text : List ℕ) → IsClear text → cuts (segment text) (47 ∷ []) ≡ false
cuts-clear text clear =
    ap (λ (t : List ℕ). cuts t (47 ∷ [])) (segment-clear text clear)
    ∙ and_false (ltb 1 (length text)) _ (ends-clear text clear)

-- a segment with its slash ends in one
pub cuts-slash : (text : List ℕ) → 0 < length text → cuts (text ++ 47 ∷ []) (47 ∷ []) ≡ true
cuts-slash text some =
    let len : length (text ++ 47 ∷ []) ≡ length text + 1 = length-append text (47 ∷ []) in
    let last : length (text ++ 47 ∷ []) - 1 ≡ length text = omega arith in
    let longer : ltb 1 (length (text ++ 47 ∷ [])) ≡ true = grind (arith, nat_tests) in
    ap (λ t. t && pointwise nat_eq (47 ∷ []) (drop (length (text ++ 47 ∷ []) - 1) (text ++ 47 ∷ []))) longer
    ∙ ap (λ k. pointwise nat_eq (47 ∷ []) (drop k (text ++ 47 ∷ []))) last
    ∙ ap (pointwise nat_eq (47 ∷ [])) (drop-append_seam text (47 ∷ []))
