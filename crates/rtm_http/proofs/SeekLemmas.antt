-- What the router's search finds.
use Rattle.std.proofs.Common.{◌≡◌, ℕ, zero, suc, ◌-◌, ◌<◌, ◌⊎◌, inl, inr, Bool, true, false, cond, List, [], ◌∷◌, ◌++◌, ◌&&◌, length, take, drop, refl, sym, ap, subst, ◌∙◌, arith, ltb, length-append, length-take}
use Rattle.std.specs.Prelude.{⊤, Option, Some, None, ◌==◌}
use Rattle.std.proofs.Math.Seq.{drop-append_seam, drop-length, take-length}
use Rattle.std.specs.List.{AllByRecursion}
use Rattle.std.proofs.lemmas.Bool.Decides.{nat_tests}
use Rattle.std.proofs.lemmas.List.{take-append-drop}
use Rattle.rtm_http.specs.Route.{IsSegment}
use Rattle.rtm_http.proofs.SegmentLemmas.{IsClear, has_slash-clear, clear_from_test, take-clear, length-segment-le, segment-append}
use Rattle.matchit.specs.Rows.{RowsOf, param_token, catch_all_token}
use Rattle.matchit.specs.Seek.{seek, param_step, own, step, or_else, segment, has_slash, cuts, better, longest_from, longest_suffix, with_suffix, same_text}

-- so many bytes of the path are a segment
pub record TakesSegment (n : ℕ) (path : List ℕ) : Type 0 where
  pub some : 0 < n
  pub segment_is : IsSegment (take n path)

-- the path is a list of bytes
abbrev pub AreBytes : List ℕ → Type 0
AreBytes path = AllByRecursion (λ b. b < 256) path

-- a token stands for a segment, for anything, or for itself
abbrev pub FitsToken : Bool → Bool → ℕ → (List ℕ → Type 0) → List ℕ → Type 0
FitsToken true rest x later path = (value : List ℕ) × (behind : List ℕ) × IsSegment value × (path ≡ value ++ behind) × later behind
FitsToken false true x later path = ⊤
FitsToken false false x later path = (behind : List ℕ) × (path ≡ x ∷ behind) × later behind

-- the path is one that the pattern is written for
abbrev pub Fits : List ℕ → List ℕ → Type 0
Fits [] path = path ≡ []
Fits (x ∷ tokens) path = FitsToken (x == param_token) (x == catch_all_token) x (Fits tokens) path

drop_more : (n b : ℕ) (path : List ℕ) → 0 < n → drop n (b ∷ path) ≡ drop (n - 1) path
drop_more zero b path some = absurd (omega arith)
drop_more (suc n) b path some = let less : n ≡ suc n - 1 = omega arith in ap (λ k. drop k path) less

fits_byte : (b : ℕ) (tokens path : List ℕ) → b < 256 → Fits tokens path → Fits (b ∷ tokens) (b ∷ path)
fits_byte b tokens path byte fits =
    let no_param : (b == param_token) ≡ false = grind (arith, nat_tests) in
    let no_rest : (b == catch_all_token) ≡ false = grind (arith, nat_tests) in
    rw (no_param, no_rest) (path, refl, fits)

pub and_left : (t s : Bool) → (t && s) ≡ true → t ≡ true
and_left true s is = refl
and_left false s is = cc

pub and_right : (t s : Bool) → (t && s) ≡ true → s ≡ true
and_right true s is = is
and_right false s is = cc

module _ {K : Type 0} where
  or_none : (x : Option K) → or_else x None ≡ x
  or_none None = refl
  or_none (Some key) = refl

  or_cases : (x y : Option K) (key : K) → or_else x y ≡ Some key → (x ≡ Some key) ⊎ (y ≡ Some key)
  or_cases None y key is = inr is
  or_cases (Some found) y key is = inl is

  -- no row goes on with a parameter
  param_none : (path : List ℕ) → (param_step {K = K} [] path).1 ≡ []
  unfolding param_step
  param_none path = by_test (has_slash path)
    where
      by_test : (t : Bool) → (cond {A = ℕ × RowsOf K} t (0, []) (length path, [])).1 ≡ []
      by_test true = refl
      by_test false = refl

  -- an empty table has no route
  pub seek_nil : (k : ℕ) (path : List ℕ) → seek {K = K} k [] path ≡ None
  unfolding seek
  seek_nil k [] = refl
  seek_nil (suc k) (b ∷ path) = seek_nil k path
  seek_nil zero (b ∷ path) =
      let n = (param_step {K = K} [] (b ∷ path)).0 - 1 in
      let later = ap (λ (rs : RowsOf K). seek n rs path) (param_none (b ∷ path)) ∙ seek_nil n path in
      cc (seek_nil 0 path, or_none None)

  -- bytes that are skipped
  pub seek-skip : (k : ℕ) (rs : RowsOf K) (path : List ℕ) → seek k rs path ≡ seek 0 rs (drop k path)
  unfolding seek
  seek-skip zero rs [] = refl
  seek-skip (suc k) rs [] = refl
  seek-skip zero rs (b ∷ path) = refl
  seek-skip (suc k) rs (b ∷ path) = seek-skip k rs path

  -- where no row goes on with a parameter or a catch-all, only the next byte counts
  pub seek-byte : (b : ℕ) (path : List ℕ) (rs : RowsOf K) → step param_token rs ≡ [] → own (step catch_all_token rs) ≡ None → seek 0 rs (b ∷ path) ≡ seek 0 (step b rs) path
  unfolding seek
  seek-byte b path rs no_param no_rest =
      let n = (param_step (step param_token rs) (b ∷ path)).0 - 1 in
      let none = ap (λ (r : RowsOf K). (param_step r (b ∷ path)).1) no_param ∙ param_none (b ∷ path) in
      let later = ap (λ (r : RowsOf K). seek n r path) none ∙ seek_nil n path in
      rw (later, no_rest, or_none)

  -- where every row goes on with a parameter, only that counts
  pub seek-param : (b : ℕ) (path : List ℕ) (rs : RowsOf K) → step b rs ≡ [] → own (step catch_all_token rs) ≡ None → seek 0 rs (b ∷ path) ≡ seek ((param_step (step param_token rs) (b ∷ path)).0 - 1) (param_step (step param_token rs) (b ∷ path)).1 path
  unfolding seek
  seek-param b path rs no_byte no_rest =
      rw (no_byte, seek_nil 0 path, no_rest, or_none)

  -- the rows behind these bytes
  abbrev pub steps : List ℕ → RowsOf K → RowsOf K
  steps [] rs = rs
  steps (b ∷ word) rs = steps word (step b rs)

  -- on the way along these bytes no row goes on with a parameter or a catch-all
  abbrev pub IsPlain : List ℕ → RowsOf K → Type 0
  IsPlain [] rs = ⊤
  IsPlain (b ∷ word) rs = (step param_token rs ≡ []) × (own (step catch_all_token rs) ≡ None) × IsPlain word (step b rs)

  pub seek-word : (word : List ℕ) (rs : RowsOf K) (path : List ℕ) → IsPlain word rs → seek 0 rs (word ++ path) ≡ seek 0 (steps word rs) path
  seek-word [] rs path plain = refl
  seek-word (b ∷ word) rs path plain = seek-byte b (word ++ path) rs plain.0 plain.1 ∙ seek-word word (step b rs) path plain.2

  -- how much a parameter takes: all of a text without a slash, or a segment up to its slash
  param_all : (rs : RowsOf K) (path : List ℕ) → longest_suffix (segment path) rs ≡ [] → has_slash path ≡ false → param_step rs path ≡ (length path, rs)
  unfolding param_step
  param_all rs path no_suffix no_slash = rw (no_suffix, no_slash)

  param_cut : (rs : RowsOf K) (path : List ℕ) → longest_suffix (segment path) rs ≡ 47 ∷ [] → param_step rs path ≡ (length (segment path) - 1, with_suffix (47 ∷ []) rs)
  unfolding param_step
  param_cut rs path suffix = rw suffix

  seek_end : (rs : RowsOf K) → seek 0 rs [] ≡ own rs
  unfolding seek
  seek_end rs = refl

  -- a parameter takes the last segment
  pub seek-last : (b : ℕ) (text : List ℕ) (rs : RowsOf K) → IsClear (b ∷ text) → step b rs ≡ [] → own (step catch_all_token rs) ≡ None → longest_suffix (segment (b ∷ text)) (step param_token rs) ≡ [] → seek 0 rs (b ∷ text) ≡ own (step param_token rs)
  seek-last b text rs clear no_byte no_rest no_suffix =
      let taken = param_all (step param_token rs) (b ∷ text) no_suffix (has_slash-clear (b ∷ text) clear) in
      let count : length (b ∷ text) - 1 ≡ length text = omega arith in
      seek-param b text rs no_byte no_rest
      ∙ ap (λ (s : ℕ × RowsOf K). seek (s.0 - 1) s.1 text) taken
      ∙ ap (λ k. seek k (step param_token rs) text) count
      ∙ seek-skip (length text) (step param_token rs) text
      ∙ ap (seek 0 (step param_token rs)) (drop-length text)
      ∙ seek_end (step param_token rs)

  -- and one that others follow takes the segment before them
  pub seek-segment : (b : ℕ) (text more : List ℕ) (rs : RowsOf K) → IsClear (b ∷ text) → step b rs ≡ [] → own (step catch_all_token rs) ≡ None → longest_suffix (segment (b ∷ text ++ 47 ∷ more)) (step param_token rs) ≡ 47 ∷ [] → seek 0 rs (b ∷ text ++ 47 ∷ more) ≡ seek 0 (with_suffix (47 ∷ []) (step param_token rs)) (47 ∷ more)
  seek-segment b text more rs clear no_byte no_rest suffix =
      let path : List ℕ = b ∷ text ++ 47 ∷ more in
      let rest : List ℕ = text ++ 47 ∷ more in
      let later : RowsOf K = with_suffix (47 ∷ []) (step param_token rs) in
      let count : length (segment path) - 1 - 1 ≡ length text = omega (arith, ap length (segment-append (b ∷ text) more clear), length-append text (47 ∷ [])) in
      seek-param b rest rs no_byte no_rest
      ∙ ap (λ (s : ℕ × RowsOf K). seek (s.0 - 1) s.1 rest) (param_cut (step param_token rs) path suffix)
      ∙ ap (λ k. seek k later rest) count
      ∙ seek-skip (length text) later rest
      ∙ ap (seek 0 later) (drop-append_seam text (47 ∷ more))

  -- the rows have this pattern with this key
  abbrev pub Has : RowsOf K → List ℕ → K → Type 0
  Has [] tokens key = ⊥
  Has ((t, k) ∷ rest) tokens key = ((t ≡ tokens) × (k ≡ key)) ⊎ Has rest tokens key

  own-has : (rs : RowsOf K) (key : K) → own rs ≡ Some key → Has rs [] key
  own-has [] key is = cc
  own-has (([], k) ∷ rest) key is = inl (refl, cc)
  own-has ((x ∷ t, k) ∷ rest) key is = inr (own-has rest key is)

  step-has : (b : ℕ) (rs : RowsOf K) (tokens : List ℕ) (key : K) → Has (step b rs) tokens key → Has rs (b ∷ tokens) key
  step-has b [] tokens key has = has
  step-has b (([], k) ∷ rest) tokens key has = inr (step-has b rest tokens key has)
  step-has b ((x ∷ t, k) ∷ rest) tokens key has = by_test (step-has b rest tokens key) (x == b) refl has
    where
      by_test : (Has (step b rest) tokens key → Has rest (b ∷ tokens) key) → (v : Bool) → (x == b) ≡ v → Has (cond v ((t, k) ∷ step b rest) (step b rest)) tokens key → Has ((x ∷ t, k) ∷ rest) (b ∷ tokens) key
      by_test later true is has = let same : x ≡ b = grind (arith, nat_tests) in elim has [ inl here ↦ inl (cc, here.1) | inr there ↦ inr (later there) ]
      by_test later false is has = inr (later has)

  suffix-has : (suffix : List ℕ) (rs : RowsOf K) (tokens : List ℕ) (key : K) → Has (with_suffix suffix rs) tokens key → Has rs tokens key
  suffix-has suffix [] tokens key has = has
  suffix-has suffix ((t, k) ∷ rest) tokens key has = by_test (suffix-has suffix rest tokens key) (same_text (segment t) suffix) has
    where
      by_test : (Has (with_suffix suffix rest) tokens key → Has rest tokens key) → (v : Bool) → Has (cond v ((t, k) ∷ with_suffix suffix rest) (with_suffix suffix rest)) tokens key → Has ((t, k) ∷ rest) tokens key
      by_test later true has = elim has [ inl here ↦ inl here | inr there ↦ inr (later there) ]
      by_test later false has = inr (later has)

  -- a suffix that is cut off leaves some of the segment
  cuts-longest : (seg best : List ℕ) (rs : RowsOf K) → (best ≡ []) ⊎ (cuts seg best ≡ true) → (longest_from seg best rs ≡ []) ⊎ (cuts seg (longest_from seg best rs) ≡ true)
  cuts-longest seg best [] is = is
  cuts-longest seg best ((t, k) ∷ rest) is = cuts-longest seg (better seg best (segment t)) rest (by_test (ltb (length best) (length (segment t)) && cuts seg (segment t)) refl)
    where
      by_test : (v : Bool) → (ltb (length best) (length (segment t)) && cuts seg (segment t)) ≡ v → (cond v (segment t) best ≡ []) ⊎ (cuts seg (cond v (segment t) best) ≡ true)
      by_test true here = inr (and_right _ _ here)
      by_test false here = is

  -- what a parameter takes is a segment, and the rows go on behind it
  param_choice : (rs : RowsOf K) (path tokens : List ℕ) (key : K) → 0 < length path → (suffix : List ℕ) → (suffix ≡ []) ⊎ (cuts (segment path) suffix ≡ true)
      → (v : Bool) → ltb 0 (length suffix) ≡ v → (w : Bool) → has_slash path ≡ w
      → Has (cond {A = ℕ × RowsOf K} v (length (segment path) - length suffix, with_suffix suffix rs) (cond w (0, []) (length path, rs))).1 tokens key
      → Has rs tokens key × TakesSegment (cond {A = ℕ × RowsOf K} v (length (segment path) - length suffix, with_suffix suffix rs) (cond w (0, []) (length path, rs))).0 path
  param_choice rs path tokens key some suffix cut true long w slash has = (suffix-has suffix rs tokens key has, taken cut)
    where
      taken : (suffix ≡ []) ⊎ (cuts (segment path) suffix ≡ true) → TakesSegment (length (segment path) - length suffix) path
      taken (inl none) = absurd (no_suffix none)
        where
          no_suffix : suffix ≡ [] → ⊥
          no_suffix none = let test : ltb 0 (length {A = ℕ} []) ≡ true = ap (λ (s : List ℕ). ltb 0 (length s)) (sym none) ∙ long in cc
      taken (inr yes_cut) =
          let shorter : ltb (length suffix) (length (segment path)) ≡ true = and_left _ _ yes_cut in
          let less : length suffix < length (segment path) = grind (arith, nat_tests) in
          let one : 0 < length suffix = grind (arith, nat_tests) in
          let n = length (segment path) - length suffix in
          let whole = length-segment-le path in
          record { some = omega arith; segment_is = record { some = omega (arith, length-take n path); no_slash = take-clear path n (omega arith) } }
  param_choice rs path tokens key some suffix cut false long true slash has = absurd has
  param_choice rs path tokens key some suffix cut false long false slash has =
      (has, record { some = some; segment_is = subst IsSegment (sym (take-length path)) (record { some = some; no_slash = clear_from_test path slash }) })

  param_takes : (rs : RowsOf K) (path tokens : List ℕ) (key : K) → 0 < length path → Has (param_step rs path).1 tokens key → Has rs tokens key × TakesSegment (param_step rs path).0 path
  unfolding param_step
  param_takes rs path tokens key some has =
      param_choice rs path tokens key some (longest_suffix (segment path) rs) (cuts-longest (segment path) [] rs (inl refl)) _ refl _ refl has

  -- some row with this key is written for the path
  abbrev pub Found : RowsOf K → K → List ℕ → Type 0
  Found rs key path = (tokens : List ℕ) × Has rs tokens key × Fits tokens path

  by_byte : (b : ℕ) (path : List ℕ) (rs : RowsOf K) (key : K) → b < 256 → Found (step b rs) key path → Found rs key (b ∷ path)
  by_byte b path rs key byte found = (b ∷ found.0, step-has b rs found.0 key found.1, fits_byte b found.0 path byte found.2)

  by_param : (b : ℕ) (path : List ℕ) (rs : RowsOf K) (key : K) → Found (param_step (step param_token rs) (b ∷ path)).1 key (drop ((param_step (step param_token rs) (b ∷ path)).0 - 1) path) → Found rs key (b ∷ path)
  by_param b path rs key found =
      let n = (param_step (step param_token rs) (b ∷ path)).0 in
      let takes = param_takes (step param_token rs) (b ∷ path) found.0 key (omega arith) found.1 in (
        param_token ∷ found.0,
        step-has param_token rs found.0 key takes.0,
        (
          take n (b ∷ path),
          drop n (b ∷ path),
          takes.1.segment_is,
          sym (take-append-drop n (b ∷ path)),
          subst (Fits found.0) (sym (drop_more n b path takes.1.some)) found.2,
        ),
      )

  by_rest : (b : ℕ) (path : List ℕ) (rs : RowsOf K) (key : K) → own (step catch_all_token rs) ≡ Some key → Found rs key (b ∷ path)
  by_rest b path rs key is = (catch_all_token ∷ [], step-has catch_all_token rs [] key (own-has (step catch_all_token rs) key is), tt)

  -- what the search finds is a row that is written for the path
  pub seek-found : (path : List ℕ) → AreBytes path → (k : ℕ) (rs : RowsOf K) (key : K) → seek k rs path ≡ Some key → Found rs key (drop k path)
  unfolding seek
  seek-found [] bytes zero rs key is = ([], own-has rs key is, refl)
  seek-found [] bytes (suc k) rs key is = ([], own-has rs key is, refl)
  seek-found (b ∷ path) bytes (suc k) rs key is = seek-found path bytes.1 k rs key is
  seek-found (b ∷ path) bytes zero rs key is =
      let n = (param_step (step param_token rs) (b ∷ path)).0 in
      let later = (param_step (step param_token rs) (b ∷ path)).1 in
      elim (or_cases (seek 0 (step b rs) path) (or_else (seek (n - 1) later path) (own (step catch_all_token rs))) key is) [
        | inl byte ↦ by_byte b path rs key bytes.0 (seek-found path bytes.1 0 (step b rs) key byte)
        | inr other ↦ elim (or_cases (seek (n - 1) later path) (own (step catch_all_token rs)) key other) [
          | inl param ↦ by_param b path rs key (seek-found path bytes.1 (n - 1) later key param)
          | inr rest ↦ by_rest b path rs key rest
        ]
      ]
