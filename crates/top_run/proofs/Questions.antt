-- No two questions are written alike.
use Rattle.std.proofs.Common.{◌≡◌, ℕ, List, [], ◌∷◌, codes, get_or, bytes_eq, cond, refl, sym, ap, ◌∙◌}
use Rattle.plan_show.specs.declared.question.Question.{Question}
use Rattle.plan_show.specs.declared.question.Question.TheVariants.{Now, Parts, Part, Field, Buffers, Progress, Stuck}
use Rattle.top_run.specs.Words.{question_word, question_names, question_words}

-- which question a word asks with these names, where it asks one
abbrev pub asked_by : List ℕ → List (List ℕ) → Question
asked_by word names = cond (bytes_eq word (codes "part")) (Part (get_or names 0 []))
    (cond (bytes_eq word (codes "field")) (Field (get_or names 0 []) (get_or names 1 []))
    (cond (bytes_eq word (codes "now")) Now
    (cond (bytes_eq word (codes "parts")) Parts
    (cond (bytes_eq word (codes "buffers")) Buffers
    (cond (bytes_eq word (codes "progress")) Progress Stuck)))))

asked_by_itself : (q : Question) → asked_by (question_word q) (question_names q) ≡ q
asked_by_itself Now = refl
asked_by_itself Parts = refl
asked_by_itself (Part name) = refl
asked_by_itself (Field name field) = refl
asked_by_itself Buffers = refl
asked_by_itself Progress = refl
asked_by_itself Stuck = refl

-- a word that asks a question without names asks no other
asked_alone : (q : Question) (names : List (List ℕ)) → question_names q ≡ [] → asked_by (question_word q) names ≡ q
asked_alone Now names e = refl
asked_alone Parts names e = refl
asked_alone (Part name) names e = absurd (cc)
asked_alone (Field name field) names e = absurd (cc)
asked_alone Buffers names e = refl
asked_alone Progress names e = refl
asked_alone Stuck names e = refl

-- words that are a question
asked_words : (word : List ℕ) (names : List (List ℕ)) (q : Question) → word ∷ names ≡ question_words q → q ≡ asked_by word names
asked_words word names q e =
    let head : word ≡ question_word q = cc in
    let rest : names ≡ question_names q = cc in
    sym (asked_by_itself q) ∙ ap (λ w. asked_by w (question_names q)) (sym head) ∙ ap (asked_by word) (sym rest)

pub question_same : (p q : Question) → question_words p ≡ question_words q → p ≡ q
question_same p q e = sym (asked_by_itself p) ∙ sym (asked_words (question_word p) (question_names p) q e)

-- nothing stands behind the word of a question without names
pub none_behind : (q p : Question) (t : List (List ℕ)) → question_names q ≡ [] → question_word q ∷ t ≡ question_words p → t ≡ []
none_behind q p t none e =
    let same : p ≡ q = asked_words (question_word q) t p e ∙ asked_alone q t none in
    let rest : t ≡ question_names p = cc in
    rest ∙ ap question_names same ∙ none

-- one name behind `part`, and two behind `field`
pub one_behind : (p : Question) (t : List (List ℕ)) → codes "part" ∷ t ≡ question_words p → t ≡ get_or t 0 [] ∷ []
one_behind p t e =
    let same : p ≡ Part (get_or t 0 []) = asked_words (codes "part") t p e in
    let rest : t ≡ question_names p = cc in
    rest ∙ ap question_names same

pub two_behind : (p : Question) (t : List (List ℕ)) → codes "field" ∷ t ≡ question_words p → t ≡ get_or t 0 [] ∷ get_or t 1 [] ∷ []
two_behind p t e =
    let same : p ≡ Field (get_or t 0 []) (get_or t 1 []) = asked_words (codes "field") t p e in
    let rest : t ≡ question_names p = cc in
    rest ∙ ap question_names same
