-- An ordered map of names: what is found in it, and what stands in it once a name was put in.
use Rattle.std.proofs.Common.{◌≡◌, ℕ, ◌+◌, ◌<◌, List, [], ◌∷◌, drop, get_or, length, suc, map, Bool, true, false, cond, Some, Vec, Global, Ordering, Less, Equal, Greater, nat_cmp, bytes_eq, refl, sym, ap, ◌∙◌, add-one}
use Rattle.std.proofs.Math.Seq.{drop-cons}
use Rattle.std.proofs.lemmas.Cmp.{nat_list_cmp_total, tied_itself}
use Rattle.std.proofs.lemmas.Map.Lookups.{exact_bytes}
use Rattle.std.proofs.lemmas.Map.Text.{is_eq-slice_cmp}
use Rattle.std.proofs.lemmas.Slice.Eq.{bytes_eq-Decides}
use Rattle.std.specs.BTreeMap.{insert_entry}
use Rattle.std.specs.Cmp.Lexicographic.{slice_cmp}
use Rattle.std.specs.List.{position_from}
use Rattle.std.specs.Map.{lookup}
use Rattle.std.specs.Ordering.{is_eq, match_ordering}
use Rattle.world_query.specs.Directory.{number_of, number_in}
use Rattle.world_query.specs.Table.{entries_of}

abbrev pub Entry : Type 0
Entry = Vec ℕ Global × ℕ

abbrev pub by_bytes : Vec ℕ Global → Vec ℕ Global → Ordering
by_bytes a b = slice_cmp nat_cmp a.items b.items

-- what a look-up by a text finds
pub lookup-entries : (es : List Entry) (text : List ℕ) → lookup (λ (k : Vec ℕ Global). is_eq (slice_cmp nat_cmp text k.items)) es ≡ number_in (entries_of es) text
lookup-entries [] text = refl
lookup-entries (e ∷ es) text = ap (λ b. cond b (Some e.1) (lookup (λ (k : Vec ℕ Global). is_eq (slice_cmp nat_cmp text k.items)) es)) (is_eq-slice_cmp text e.0.items) ∙ ap (λ r. cond (bytes_eq text e.0.items) (Some e.1) r) (lookup-entries es text)

twice : {A : Type 0} (b : Bool) (x y z : A) → cond b x z ≡ cond b x (cond b y z)
twice true x y z = refl
twice false x y z = refl

exchanged : {A : Type 0} (a b : Bool) (x y z : A) → (a ≡ true → b ≡ true → ⊥) → cond b x (cond a y z) ≡ cond a y (cond b x z)
exchanged true true x y z apart = absurd (apart refl refl)
exchanged true false x y z apart = refl
exchanged false true x y z apart = refl
exchanged false false x y z apart = refl

-- a text is not two keys that differ
apart : (k l text : List ℕ) → slice_cmp nat_cmp k l ≡ Greater → bytes_eq text k ≡ true → bytes_eq text l ≡ true → ⊥
apart k l text greater at_k at_l =
    let same : k ≡ l = sym ((bytes_eq-Decides text k).0 at_k) ∙ (bytes_eq-Decides text l).0 at_l in
    let tied : slice_cmp nat_cmp k l ≡ Equal = ap (λ x. slice_cmp nat_cmp x l) same ∙ tied_itself nat_list_cmp_total l in
    cc

found_at : (o : Ordering) (e k : Entry) (es more : List Entry) (text : List ℕ) → slice_cmp nat_cmp k.0.items e.0.items ≡ o
    → number_in (entries_of more) text ≡ cond (bytes_eq text k.0.items) (Some k.1) (number_in (entries_of es) text)
    → number_in (entries_of (match_ordering o (k ∷ e ∷ es) ((e.0, k.1) ∷ es) (e ∷ more))) text ≡ cond (bytes_eq text k.0.items) (Some k.1) (number_in (entries_of (e ∷ es)) text)
found_at Less e k es more text is later = refl
found_at Equal e k es more text is later =
    let same : e.0.items ≡ k.0.items = sym (exact_bytes k.0.items e.0.items is) in
    ap (λ l. cond (bytes_eq text l) (Some k.1) (number_in (entries_of es) text)) same
    ∙ twice (bytes_eq text k.0.items) (Some k.1) (Some e.1) (number_in (entries_of es) text)
    ∙ ap (λ l. cond (bytes_eq text k.0.items) (Some k.1) (cond (bytes_eq text l) (Some e.1) (number_in (entries_of es) text))) (sym same)
found_at Greater e k es more text is later =
    ap (λ r. cond (bytes_eq text e.0.items) (Some e.1) r) later
    ∙ exchanged (bytes_eq text k.0.items) (bytes_eq text e.0.items) (Some e.1) (Some k.1) (number_in (entries_of es) text) (apart k.0.items e.0.items text is)

-- what is found once a name was put in with a number
pub number_in-insert : (es : List Entry) (k : Vec ℕ Global) (v : ℕ) (text : List ℕ) → number_in (entries_of (insert_entry by_bytes es k v)) text ≡ cond (bytes_eq text k.items) (Some v) (number_in (entries_of es) text)
number_in-insert [] k v text = refl
number_in-insert (e ∷ es) k v text = found_at (by_bytes k e.0) e (k, v) es (insert_entry by_bytes es k v) text refl (number_in-insert es k v text)

-- the names from one on, where the next ones have the numbers from `next` on
pub position_from-drop : (names : List (List ℕ)) (left next : ℕ) (name text : List ℕ) → left + 1 ≡ next → left < length names → name ≡ get_or names left name
    → position_from (λ n. bytes_eq text n) left (drop left names) ≡ cond (bytes_eq text name) (Some left) (position_from (λ n. bytes_eq text n) next (drop next names))
position_from-drop names left next name text more within is =
    ap (position_from (λ n. bytes_eq text n) left) (drop-cons names left name within)
    ∙ ap (λ n. cond (bytes_eq text n) (Some left) (position_from (λ m. bytes_eq text m) (left + 1) (drop (suc left) names))) (sym is)
    ∙ ap (λ j. cond (bytes_eq text name) (Some left) (position_from (λ n. bytes_eq text n) (left + 1) (drop j names))) (sym (add-one left))
    ∙ ap (λ j. cond (bytes_eq text name) (Some left) (position_from (λ n. bytes_eq text n) j (drop j names))) more

-- what has a number in each list of names
pub number_of-map : (fields : List (Vec (List ℕ) Global)) → map (λ (names : Vec (List ℕ) Global). number_of names.items) fields ≡ map number_of (map (λ (names : Vec (List ℕ) Global). names.items) fields)
number_of-map [] = refl
number_of-map (names ∷ fields) = ap (λ rest. number_of names.items ∷ rest) (number_of-map fields)

pub length-map : {A B : Type 0} (f : A → B) (xs : List A) → length (map f xs) ≡ length xs
length-map f [] = refl
length-map f (x ∷ xs) = ap suc (length-map f xs)
