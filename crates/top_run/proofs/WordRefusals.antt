-- Where words are refused.
use Rattle.std.proofs.Common.{◌≡◌, ℕ, zero, suc, ◌+◌, ◌<◌, ◌≤◌, List, [], ◌∷◌, length, take, drop, codes, refl, sym, ap, ◌∙◌, subst, arith}
use Rattle.std.specs.Prelude.{Some, None, slice_get, String, get_or, Result, Ok, Err, IfOk, IfErr}
use Rattle.std.specs.Global.{Global}
use Rattle.top_run.specs.Words.{spelled, Shares, IsRefusedAs, IsRefusedFrom, IsAccepted, IsBehind, RefusedAt, command_word, AreBehind, IsUsage}
use Rattle.top_run.specs.declared.command.Command.{Command}
use Rattle.top_run.specs.declared.refusal.Refusal.{Refusal}
use Rattle.top_run.specs.declared.refusal.Refusal.TheVariants as refusals

-- the words from a place on begin with the word of this place
pub drop_at : {A : Type 0} (words : List A) (place : ℕ) (w : A) → slice_get words place ≡ Some w → drop place words ≡ w ∷ drop (suc place) words
drop_at [] place w e = absurd (cc)
drop_at (v ∷ vs) zero w e = let same : v ≡ w = cc in ap (λ x. x ∷ vs) same
drop_at (v ∷ vs) (suc place) w e = drop_at vs place w e

-- what the words from a place on share of one word is the word of this place
first_shared : {A : Type 0} (words : List A) (place : ℕ) (v : A) (t : List A) → take 1 (v ∷ t) ≡ take 1 (drop place words) → slice_get words place ≡ Some v
first_shared [] zero v t e = absurd (cc)
first_shared [] (suc place) v t e = absurd (cc)
first_shared (w ∷ ws) zero v t e = let same : v ≡ w = cc in ap (λ x. Some x) (sym same)
first_shared (w ∷ ws) (suc place) v t e = first_shared ws place v t e

some_left : {A : Type 0} (words : List A) (place : ℕ) → place < length words → [] ≡ take 1 (drop place words) → ⊥
some_left [] place b e = absurd (omega (arith, b))
some_left (w ∷ ws) zero b e = absurd (cc)
some_left (w ∷ ws) (suc place) b e = some_left ws place (omega (arith, b)) e

-- no list of a sort goes on with the word of this place
pub from_here : (sort : List (List ℕ) → Type 0) (words : List (List ℕ)) (place k : ℕ) (others : List (List ℕ)) → sort others → k ≡ place + 1 → (sort [] → place < length words) → ((v : List ℕ) (t : List (List ℕ)) → sort (v ∷ t) → slice_get words place ≡ Some v → ⊥) → IsRefusedFrom sort words place k
from_here sort words place k others some e ended other = (
  0,
  e,
  record {
    none = λ (t, is, same). not t is same;
    before = λ j b. subst (λ i. Shares sort i (drop place words)) (let z : 0 ≡ j = omega (arith, b) in z) (others, some, refl);
  },
)
  where
    not : (t : List (List ℕ)) → sort t → take 1 t ≡ take 1 (drop place words) → ⊥
    not [] is same = some_left words place (ended is) same
    not (v ∷ t) is same = other v t is (first_shared words place v t same)

refused_behind : (sort rest_sort : List (List ℕ) → Type 0) (w : List ℕ) (words rest : List (List ℕ)) (k : ℕ) → words ≡ w ∷ rest → ((t : List (List ℕ)) → rest_sort t → sort (w ∷ t)) → ((t : List (List ℕ)) → sort (w ∷ t) → rest_sort t) → IsRefusedAs rest_sort rest (suc k) → IsRefusedAs sort words (suc (suc k))
refused_behind sort rest_sort w words rest k e put off r = record {
  none = λ (t, is, same). not t is (same ∙ ap (take (suc (suc k))) e);
  before = λ j b. sharing j b;
}
  where
    not : (t : List (List ℕ)) → sort t → take (suc (suc k)) t ≡ w ∷ take (suc k) rest → ⊥
    not [] is same = absurd (cc)
    not (v ∷ t) is same =
        let head : v ≡ w = cc in
        let tail : take (suc k) t ≡ take (suc k) rest = cc in
        r.none (t, off t (subst (λ x. sort (x ∷ t)) head is), tail)

    shared : (j : ℕ) → Shares rest_sort j rest → Shares sort (suc j) words
    shared j (t, is, same) = (w ∷ t, put t is, ap (λ l. w ∷ l) same ∙ sym (ap (take (suc j)) e))

    none_shared : Shares rest_sort 0 rest → Shares sort 0 words
    none_shared (t, is, same) = (w ∷ t, put t is, refl)

    sharing : (j : ℕ) → j < suc (suc k) → Shares sort j words
    sharing zero b = none_shared (r.before 0 (omega arith))
    sharing (suc j) b = shared j (r.before j (omega (arith, b)))

-- the word of this place is one that lists of a sort go on with, and what stands behind it is refused
pub from_behind : (sort rest_sort : List (List ℕ) → Type 0) (w : List ℕ) (words : List (List ℕ)) (place k : ℕ) → slice_get words place ≡ Some w → ((t : List (List ℕ)) → rest_sort t → sort (w ∷ t)) → ((t : List (List ℕ)) → sort (w ∷ t) → rest_sort t) → IsRefusedFrom rest_sort words (suc place) k → IsRefusedFrom sort words place k
from_behind sort rest_sort w words place k e put off (j, at, r) =
    (suc j, omega (arith, at), refused_behind sort rest_sort w (drop place words) (drop (suc place) words) j (drop_at words place w e) put off r)

-- two sorts are the same
pub from_same : (sort other : List (List ℕ) → Type 0) (words : List (List ℕ)) (place k : ℕ) → ((t : List (List ℕ)) → other t → sort t) → ((t : List (List ℕ)) → sort t → other t) → IsRefusedFrom other words place k → IsRefusedFrom sort words place k
from_same sort other words place k put off (j, at, r) = (
  j,
  at,
  record {
    none = λ (t, is, same). r.none (t, off t is, same);
    before = λ i b. given i (r.before i b);
  },
)
  where
    given : (i : ℕ) → Shares other i (drop place words) → Shares sort i (drop place words)
    given i (t, is, same) = (t, put t is, same)

from_start : (words : List (List ℕ)) (k : ℕ) → IsRefusedFrom IsAccepted words 0 k → RefusedAt words k
from_start words k (j, at, r) = subst (λ i. IsRefusedAs IsAccepted words i) (let e : suc j ≡ k = omega (arith, at) in e) r

-- the first word is that of some command, and what stands behind it is refused
pub behind_word : (w : List ℕ) (words : List (List ℕ)) (k : ℕ) → slice_get words 0 ≡ Some w → IsRefusedFrom (IsBehind w) words 1 k → RefusedAt words k
behind_word w words k e r = from_start words k (from_behind IsAccepted (IsBehind w) w words 0 k e put off r)
  where
    put : (t : List (List ℕ)) → IsBehind w t → IsAccepted (w ∷ t)
    put t (c, is, behind) = (c, (t, ap (λ x. x ∷ t) (sym is), behind))

    off : (t : List (List ℕ)) → IsAccepted (w ∷ t) → IsBehind w t
    off t (c, (rest, e, behind)) =
        let head : w ≡ command_word c = cc in
        let tail : t ≡ rest = cc in
        (c, sym head, subst (λ l. AreBehind c l) (sym tail) behind)

-- the first word is that of no command
pub no_word : (words : List (List ℕ)) → ((c : Command) → slice_get words 0 ≡ Some (command_word c) → ⊥) → IsAccepted (codes "check" ∷ codes "a" ∷ []) → RefusedAt words 1
no_word words other some = from_start words 1 (from_here IsAccepted words 0 1 _ some refl ended not)
  where
    ended : IsAccepted [] → 0 < length words
    ended (c, (rest, e, behind)) = absurd (cc)

    not : (v : List ℕ) (t : List (List ℕ)) → IsAccepted (v ∷ t) → slice_get words 0 ≡ Some v → ⊥
    not v t (c, (rest, e, behind)) at =
        let head : v ≡ command_word c = cc in
        other c (at ∙ ap (λ x. Some x) head)

pub length-spelled : (words : List (String Global)) → length (spelled words) ≡ length words
length-spelled [] = refl
length-spelled (w ∷ ws) = ap suc (length-spelled ws)

pub got_some : {A : Type 0} (xs : List A) (k : ℕ) (x : A) → k < length xs → x ≡ get_or xs k x → slice_get xs k ≡ Some x
got_some [] k x b e = absurd (omega (arith, b))
got_some (y ∷ ys) zero x b e = ap (λ z. Some z) (sym e)
got_some (y ∷ ys) (suc k) x b e = got_some ys k x (omega (arith, b)) e

pub got_none : {A : Type 0} (xs : List A) (k : ℕ) → length xs ≤ k → slice_get xs k ≡ None
got_none [] k b = refl
got_none (y ∷ ys) zero b = absurd (omega (arith, b))
got_none (y ∷ ys) (suc k) b = got_none ys k (omega (arith, b))

-- a list is longer than the place of an item
pub within : {A : Type 0} (xs : List A) (k : ℕ) (x : A) → slice_get xs k ≡ Some x → k < length xs
within [] k x e = absurd (cc)
within (y ∷ ys) zero x e = omega arith
within (y ∷ ys) (suc k) x e = (let b = within ys k x e in omega (arith, b))

-- no word stands from a place on
pub drop_all : {A : Type 0} (xs : List A) (k : ℕ) → length xs ≤ k → drop k xs ≡ []
drop_all [] zero b = refl
drop_all [] (suc k) b = refl
drop_all (y ∷ ys) zero b = absurd (omega (arith, b))
drop_all (y ∷ ys) (suc k) b = drop_all ys k (omega (arith, b))

-- what is true of a number is so of the refusal at it
pub usage_map : (fact other : ℕ → Type 0) (r : Refusal) → ((k : ℕ) → fact k → other k) → IsUsage fact r → IsUsage other r
usage_map fact other (refusals.Usage k) f is = f k is
usage_map fact other (refusals.Read file) f is = is
usage_map fact other (refusals.Config fault) f is = is
usage_map fact other (refusals.Program breach) f is = is
usage_map fact other (refusals.Plan breach) f is = is
usage_map fact other (refusals.Name unknown) f is = is
usage_map fact other refusals.Write f is = is
usage_map fact other (refusals.WriteAt d) f is = is
usage_map fact other refusals.OutOfMemory f is = is

pub ok_map : {A E : Type 0} (fact other : A → Type 0) (r : Result A E) → ((x : A) → fact x → other x) → IfOk r fact → IfOk r other
ok_map fact other (Ok x) f is = f x is
ok_map fact other (Err e) f is = is

pub err_map : {A E : Type 0} (fact other : E → Type 0) (r : Result A E) → ((x : E) → fact x → other x) → IfErr r fact → IfErr r other
err_map fact other (Ok x) f is = is
err_map fact other (Err e) f is = f e is
