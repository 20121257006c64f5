-- What a sink got of a text, piece by piece.
use Rattle.std.proofs.Common.{◌≡◌, ℕ, ◌+◌, ◌<◌, ◌≤◌, List, [], ◌∷◌, ◌++◌, length, take, drop, get_or, Option, Some, None, append_assoc, add-one, ap, refl, sym, ◌∙◌, subst, arith}
use Rattle.std.specs.Prelude.{option_map, flat_map, count_by, cond, Bool, true, false, Result, Ok, Err, OnErr}
use Rattle.std.proofs.Math.Seq.{take-append_seam}
use Rattle.std.proofs.lemmas.List.{take_more, take-append-drop, append-nil}
use Rattle.std.proofs.lemmas.Grind.{flat_map-append}
use Rattle.std.proofs.lemmas.List.Sums.{get_or-le-sum_by, count_by_more_yes, count_by_more_no}
use Rattle.sim_io.specs.Sink.{Got, GotPrefix, one_more, more_if, more_by}

-- so many items of a list have a line; a count rose once for each
pub more_counted : {A : Type 0} (has : A → Bool) (items : List A) (i : ℕ) (item other : A) (first before after : ℕ) → i < length items → item ≡ get_or items i other → before ≡ more_by first (count_by has (take i items)) → after ≡ more_if (has item) before → after ≡ more_by first (count_by has (take (i + 1) items))
more_counted has items i item other first before after h is b a = by_test (has item) refl
  where
    by_test : (t : Bool) → has item ≡ t → after ≡ more_by first (count_by has (take (i + 1) items))
    by_test true e =
        a ∙ ap (λ t. more_if t before) e ∙ ap one_more b
        ∙ ap (more_by first) (sym (count_by_more_yes has items i other h (ap has (sym is) ∙ e) ∙ add-one (count_by has (take i items))))
    by_test false e =
        a ∙ ap (λ t. more_if t before) e ∙ b
        ∙ ap (more_by first) (sym (count_by_more_no has items i other h (ap has (sym is) ∙ e)))

-- where some item of a list has a line, there is one
pub some_counted : {A : Type 0} (has : A → Bool) (items : List A) (i : ℕ) (item other : A) → i < length items → item ≡ get_or items i other → has item ≡ true → 0 < count_by has items
some_counted has items i item other h is line =
    let least : 1 ≤ 1 = omega arith in
    let one : 1 ≤ cond (has (get_or items i other)) 1 0 = subst (λ t. 1 ≤ cond t 1 0) (sym (ap has (sym is) ∙ line)) least in
    let all = get_or-le-sum_by (λ x. cond (has x) 1 0) items i other h in
    omega (arith, one, all)

-- the sink got the texts of the first `count` items, and its count of faults did not fall
pub record GotFirst {A : Type 0} (f : A → List ℕ) (items : List A) (count : ℕ) (old new : Option (List ℕ)) (before after : ℕ) : Type 0 where
  pub got : Got old new (flat_map f (take count items))
  pub falls : before ≤ after

pub Got-more : (old mid new : Option (List ℕ)) (a b : List ℕ) → Got old mid a → Got mid new b → Got old new (a ++ b)
Got-more None mid new a b p q = q ∙ ap (λ held. option_map (λ bytes. bytes ++ b) held) p
Got-more (Some xs) mid new a b p q =
    q ∙ ap (λ held. option_map (λ bytes. bytes ++ b) held) p ∙ ap (λ bytes. Some bytes) (append_assoc xs a b)

-- the text of the first items and of the next one is that of one item more
texts_more : {A : Type 0} (f : A → List ℕ) (items : List A) (i : ℕ) (item other : A) → i < length items → item ≡ get_or items i other → flat_map f (take i items) ++ f item ≡ flat_map f (take (i + 1) items)
texts_more f items i item other h is =
    let before = flat_map f (take i items) in
    sym (
    ap (flat_map f) (take_more items i other h)
    ∙ flat_map-append f (take i items) (get_or items i other ∷ [])
    ∙ ap (λ text. before ++ text) (append-nil (f (get_or items i other)) ∙ ap f (sym is))
    )

regroup : (a b c d : List ℕ) → (a ++ (b ++ c)) ++ d ≡ (a ++ b) ++ (c ++ d)
regroup a b c d = simp append_assoc

-- and the rest comes after it
texts_split : {A : Type 0} (f : A → List ℕ) (items : List A) (i : ℕ) → flat_map f items ≡ flat_map f (take i items) ++ flat_map f (drop i items)
texts_split f items i = ap (flat_map f) (sym (take-append-drop i items)) ∙ flat_map-append f (take i items) (drop i items)

pub got_next : {A : Type 0} (f : A → List ℕ) (items : List A) (i : ℕ) (item other : A) (old mid new : Option (List ℕ)) (before between after : ℕ) → GotFirst f items i old mid before between → i < length items → item ≡ get_or items i other → Got mid new (f item) → between ≤ after → GotFirst f items (i + 1) old new before after
got_next f items i item other old mid new before between after h in_range is got falls = record {
  got = subst (λ (bytes : List ℕ). Got old new bytes) (texts_more f items i item other in_range is) (Got-more old mid new _ _ h.got got);
  falls = let first = h.falls in omega (arith, first, falls);
}

pub got_part : {A : Type 0} (f : A → List ℕ) (items : List A) (i : ℕ) (item other : A) (old mid new : Option (List ℕ)) (before between : ℕ) → GotFirst f items i old mid before between → i < length items → item ≡ get_or items i other → GotPrefix mid new (f item) → GotPrefix old new (flat_map f items)
got_part f items i item other old mid new before between h in_range is (k, got) =
    let text = flat_map f (take i items) ++ take k (f item) in
    let rest = drop k (f item) ++ flat_map f (drop (i + 1) items) in
    let before = flat_map f (take i items) in
    let after = flat_map f (drop (i + 1) items) in
    let whole : flat_map f items ≡ text ++ rest =
    texts_split f items (i + 1)
    ∙ ap (λ t. t ++ after) (sym (texts_more f items i item other in_range is) ∙ ap (λ t. before ++ t) (sym (take-append-drop k (f item))))
    ∙ regroup before (take k (f item)) (drop k (f item)) after in
    (length text, subst (λ (bytes : List ℕ). Got old new bytes) (sym (ap (take (length text)) whole ∙ take-append_seam text rest)) (Got-more old mid new _ _ h.got got))

pub on_err : {A E P : Type 0} (r : Result A E) → P → OnErr r P
on_err (Ok x) h = tt
on_err (Err e) h = h
