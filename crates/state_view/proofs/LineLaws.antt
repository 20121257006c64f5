-- One line more, and lines that follow one another.
use Rattle.std.proofs.Common.{◌≡◌, ℕ, ◌+◌, ◌<◌, List, [], ◌∷◌, ◌++◌, length, take, zero, suc, refl, sym, ◌∙◌, ap, append_assoc, append-nil, add-one}
use Rattle.std.proofs.lemmas.Option.{slice_get_read}
use Rattle.std.specs.Prelude.{Option, Some, slice_get, slice_index_or, Result, Ok, Err, OnOk}
use Rattle.state_view.specs.Report.{lines_of}

some_is : {A : Type 0} (x y : A) → Some x ≡ Some y → x ≡ y
some_is x y e = cc

lines_more : {S : Type 0} (line : List ℕ → S → List ℕ) (names : List (List ℕ)) (states : List S) (k : ℕ) (name : List ℕ) (state : S) → slice_get names k ≡ Some name → slice_get states k ≡ Some state → lines_of line (take (suc k) names) (take (suc k) states) ≡ lines_of line (take k names) (take k states) ++ line name state
lines_more line [] states k name state e f = absurd (cc)
lines_more line (n ∷ ns) [] k name state e f = absurd (cc)
lines_more line (n ∷ ns) (s ∷ ss) zero name state e f = append-nil (line n s) ∙ ap (λ x. line x s) (some_is n name e) ∙ ap (λ x. line name x) (some_is s state f)
lines_more line (n ∷ ns) (s ∷ ss) (suc k) name state e f = ap (λ l. line n s ++ l) (lines_more line ns ss k name state e f) ∙ sym (append_assoc (line n s) (lines_of line (take k ns) (take k ss)) (line name state))

-- a text of the first k lines, and the line of number k behind it
pub one_line_more : {S : Type 0} (line : List ℕ → S → List ℕ) (names : List (List ℕ)) (states : List S) (k : ℕ) (name : List ℕ) (state : S) (start before after : List ℕ) → k < length states → length names ≡ length states → name ≡ slice_index_or names k name → state ≡ slice_index_or states k state → before ≡ start ++ lines_of line (take k names) (take k states) → after ≡ before ++ line name state → after ≡ start ++ lines_of line (take (k + 1) names) (take (k + 1) states)
one_line_more line names states k name state start before after b l n s g h =
    h ∙ ap (λ l. l ++ line name state) g
    ∙ append_assoc start (lines_of line (take k names) (take k states)) (line name state)
    ∙ ap (λ l. start ++ l) (sym (lines_more line names states k name state (slice_get_read names (length states) k name (sym l) b n) (slice_get_read states (length states) k state refl b s)) ∙ ap (λ j. lines_of line (take j names) (take j states)) (sym (add-one k)))

pub on_ok : {T E : Type 0} (r : Result T E) (A B : Type 0) → (A → B) → OnOk r A → OnOk r B
on_ok (Ok x) A B f h = f h
on_ok (Err e) A B f h = tt

-- five pieces, one after the other
pub five_pieces : (start a m b p f one two three four five : List ℕ) → one ≡ start ++ a → two ≡ one ++ m → three ≡ two ++ b → four ≡ three ++ p → five ≡ four ++ f → five ≡ start ++ (a ++ m ++ b ++ p ++ f)
five_pieces start a m b p f one two three four five e g h k l =
    l ∙ ap (λ x. x ++ f) k ∙ ap (λ x. x ++ p ++ f) h ∙ ap (λ x. x ++ b ++ p ++ f) g ∙ ap (λ x. x ++ m ++ b ++ p ++ f) e ∙ simp append_assoc
