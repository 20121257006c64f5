-- Where the words behind `show` are refused.
use Rattle.std.proofs.Common.{◌≡◌, ◌≢◌, ℕ, suc, ◌+◌, ◌<◌, ◌≤◌, List, [], ◌∷◌, length, drop, codes, get_or, refl, sym, ap, ◌∙◌, subst, arith}
use Rattle.std.specs.Prelude.{Some, slice_get}
use Rattle.std.specs.Fmt.{decimal}
use Rattle.sim_base.specs.declared.time.Time.{Time}
use Rattle.plan_show.specs.declared.question.Question.{Question}
use Rattle.plan_show.specs.declared.question.Question.TheVariants as questions
use Rattle.top_run.specs.Words.{latest, IsFile, question_word, question_names, question_words, AreShow, IsShow, IsQuestion, IsRefusedFrom, IsNumberAt}
use Rattle.top_run.proofs.WordRefusals.{from_here, from_behind, drop_at, got_none}
use Rattle.top_run.proofs.CommandRefusals.{sample, IsEnd}
use Rattle.top_run.proofs.Questions.{none_behind, one_behind, two_behind}

abbrev pub time_of : ℕ → Time
time_of t = record { 0 = t }

-- a time and a question behind it
abbrev pub IsTimeAndQuestion : List (List ℕ) → Type 0
IsTimeAndQuestion words = (t : ℕ) × (rest : List (List ℕ)) × (words ≡ decimal t ∷ rest) × (t ≤ latest) × IsQuestion rest

-- `--at`, a time, and a question behind them
abbrev pub IsAtAndQuestion : List (List ℕ) → Type 0
IsAtAndQuestion words = (rest : List (List ℕ)) × (words ≡ codes "--at" ∷ rest) × IsTimeAndQuestion rest

-- the file of `show`
pub no_show_file : (words : List (List ℕ)) (k : ℕ) → k ≡ 2 → ((file : List ℕ) → slice_get words 1 ≡ Some file → IsFile file → ⊥) → IsRefusedFrom IsShow words 1 k
no_show_file words k e other = from_here IsShow words 1 k _ (codes "a", time_of 0, questions.Now, (refl, sample, omega arith)) e ended not
  where
    ended : IsShow [] → 1 < length words
    ended (file, at, question, (is, good, within)) = absurd (cc)

    not : (v : List ℕ) (t : List (List ℕ)) → IsShow (v ∷ t) → slice_get words 1 ≡ Some v → ⊥
    not v t (file, at, question, (is, good, within)) here = let head : v ≡ file = cc in other file (here ∙ ap (λ x. Some x) head) good

pub behind_show_file : (words : List (List ℕ)) (file : List ℕ) (k : ℕ) → slice_get words 1 ≡ Some file → IsFile file → IsRefusedFrom IsAtAndQuestion words 2 k → IsRefusedFrom IsShow words 1 k
behind_show_file words file k here good r = from_behind IsShow IsAtAndQuestion file words 1 k here put off r
  where
    put : (t : List (List ℕ)) → IsAtAndQuestion t → IsShow (file ∷ t)
    put t (rest, e, (n, more, f, within, (question, g))) =
        (file, time_of n, question, (ap (λ l. file ∷ l) (e ∙ ap (λ l. codes "--at" ∷ l) (f ∙ ap (λ l. decimal n ∷ l) g)), good, within))

    off : (t : List (List ℕ)) → IsShow (file ∷ t) → IsAtAndQuestion t
    off t (other, at, question, (is, fine, within)) =
        let tail : t ≡ codes "--at" ∷ decimal at.0 ∷ question_words question = cc in
        (decimal at.0 ∷ question_words question, tail, (at.0, question_words question, refl, within, (question, refl)))

-- its word `--at`
pub no_at : (words : List (List ℕ)) (k : ℕ) → k ≡ 3 → slice_get words 2 ≢ Some (codes "--at") → IsRefusedFrom IsAtAndQuestion words 2 k
no_at words k e other = from_here IsAtAndQuestion words 2 k _ (_, refl, (0, _, refl, omega arith, (questions.Now, refl))) e ended not
  where
    ended : IsAtAndQuestion [] → 2 < length words
    ended (rest, is, more) = absurd (cc)

    not : (v : List ℕ) (t : List (List ℕ)) → IsAtAndQuestion (v ∷ t) → slice_get words 2 ≡ Some v → ⊥
    not v t (rest, is, more) here = let head : v ≡ codes "--at" = cc in other (here ∙ ap (λ x. Some x) head)

pub behind_at : (words : List (List ℕ)) (k : ℕ) → slice_get words 2 ≡ Some (codes "--at") → IsRefusedFrom IsTimeAndQuestion words 3 k → IsRefusedFrom IsAtAndQuestion words 2 k
behind_at words k here r = from_behind IsAtAndQuestion IsTimeAndQuestion (codes "--at") words 2 k here put off r
  where
    put : (t : List (List ℕ)) → IsTimeAndQuestion t → IsAtAndQuestion (codes "--at" ∷ t)
    put t is = (t, refl, is)

    off : (t : List (List ℕ)) → IsAtAndQuestion (codes "--at" ∷ t) → IsTimeAndQuestion t
    off t (rest, e, is) = let tail : t ≡ rest = cc in subst IsTimeAndQuestion (sym tail) is

-- its time
pub no_show_time : (words : List (List ℕ)) (k : ℕ) → k ≡ 4 → ((n : ℕ) → IsNumberAt words 3 0 latest n → ⊥) → IsRefusedFrom IsTimeAndQuestion words 3 k
no_show_time words k e other = from_here IsTimeAndQuestion words 3 k _ (0, _, refl, omega arith, (questions.Now, refl)) e ended not
  where
    ended : IsTimeAndQuestion [] → 3 < length words
    ended (n, rest, is, within, more) = absurd (cc)

    not : (v : List ℕ) (t : List (List ℕ)) → IsTimeAndQuestion (v ∷ t) → slice_get words 3 ≡ Some v → ⊥
    not v t (n, rest, is, within, more) here =
        let head : v ≡ decimal n = cc in
        other n (record { word = here ∙ ap (λ x. Some x) head; from = omega arith; within = within })

pub behind_show_time : (words : List (List ℕ)) (n k : ℕ) → IsNumberAt words 3 0 latest n → IsRefusedFrom IsQuestion words 4 k → IsRefusedFrom IsTimeAndQuestion words 3 k
behind_show_time words n k number r = from_behind IsTimeAndQuestion IsQuestion (decimal n) words 3 k number.word put off r
  where
    put : (t : List (List ℕ)) → IsQuestion t → IsTimeAndQuestion (decimal n ∷ t)
    put t is = (n, t, refl, number.within, is)

    off : (t : List (List ℕ)) → IsTimeAndQuestion (decimal n ∷ t) → IsQuestion t
    off t (m, rest, e, within, is) = let tail : t ≡ rest = cc in subst IsQuestion (sym tail) is

-- its question
pub no_question : (words : List (List ℕ)) (k : ℕ) → k ≡ 5 → ((q : Question) → slice_get words 4 ≡ Some (question_word q) → ⊥) → IsRefusedFrom IsQuestion words 4 k
no_question words k e other = from_here IsQuestion words 4 k _ (questions.Now, refl) e ended not
  where
    ended : IsQuestion [] → 4 < length words
    ended (question, is) = absurd (cc)

    not : (v : List ℕ) (t : List (List ℕ)) → IsQuestion (v ∷ t) → slice_get words 4 ≡ Some v → ⊥
    not v t (question, is) here = let head : v ≡ question_word question = cc in other question (here ∙ ap (λ x. Some x) head)

pub behind_whole : (words : List (List ℕ)) (q : Question) (k : ℕ) → slice_get words 4 ≡ Some (question_word q) → question_names q ≡ [] → IsRefusedFrom IsEnd words 5 k → IsRefusedFrom IsQuestion words 4 k
behind_whole words q k here none r = from_behind IsQuestion IsEnd (question_word q) words 4 k here put off r
  where
    put : (t : List (List ℕ)) → IsEnd t → IsQuestion (question_word q ∷ t)
    put t is = (q, ap (λ l. question_word q ∷ l) (is ∙ sym none))

    off : (t : List (List ℕ)) → IsQuestion (question_word q ∷ t) → IsEnd t
    off t (p, e) = none_behind q p t none e

-- one name
abbrev pub IsOneName : List (List ℕ) → Type 0
IsOneName words = (name : List ℕ) × (words ≡ name ∷ [])

-- two names
abbrev pub AreTwoNames : List (List ℕ) → Type 0
AreTwoNames words = (name : List ℕ) × (field : List ℕ) × (words ≡ name ∷ field ∷ [])

pub behind_part : (words : List (List ℕ)) (k : ℕ) → slice_get words 4 ≡ Some (codes "part") → IsRefusedFrom IsOneName words 5 k → IsRefusedFrom IsQuestion words 4 k
behind_part words k here r = from_behind IsQuestion IsOneName (codes "part") words 4 k here put off r
  where
    put : (t : List (List ℕ)) → IsOneName t → IsQuestion (codes "part" ∷ t)
    put t (name, is) = (questions.Part name, ap (λ l. codes "part" ∷ l) is)

    off : (t : List (List ℕ)) → IsQuestion (codes "part" ∷ t) → IsOneName t
    off t (p, e) = (get_or t 0 [], one_behind p t e)

pub behind_field : (words : List (List ℕ)) (k : ℕ) → slice_get words 4 ≡ Some (codes "field") → IsRefusedFrom AreTwoNames words 5 k → IsRefusedFrom IsQuestion words 4 k
behind_field words k here r = from_behind IsQuestion AreTwoNames (codes "field") words 4 k here put off r
  where
    put : (t : List (List ℕ)) → AreTwoNames t → IsQuestion (codes "field" ∷ t)
    put t (name, field, is) = (questions.Field name field, ap (λ l. codes "field" ∷ l) is)

    off : (t : List (List ℕ)) → IsQuestion (codes "field" ∷ t) → AreTwoNames t
    off t (p, e) = (get_or t 0 [], get_or t 1 [], two_behind p t e)

-- no word stands at this place
no_word_at : {A : Type 0} (words : List (List ℕ)) (place : ℕ) (v : List ℕ) → length words ≤ place → slice_get words place ≡ Some v → A
no_word_at words place v long here = let none = got_none words place long in absurd (cc)

pub no_name : (words : List (List ℕ)) (place k : ℕ) → k ≡ place + 1 → length words ≤ place → IsRefusedFrom IsOneName words place k
no_name words place k e long = from_here IsOneName words place k _ ([], refl) e ended not
  where
    ended : IsOneName [] → place < length words
    ended (name, is) = absurd (cc)

    not : (v : List ℕ) (t : List (List ℕ)) → IsOneName (v ∷ t) → slice_get words place ≡ Some v → ⊥
    not v t is here = no_word_at words place v long here

pub no_names : (words : List (List ℕ)) (place k : ℕ) → k ≡ place + 1 → length words ≤ place → IsRefusedFrom AreTwoNames words place k
no_names words place k e long = from_here AreTwoNames words place k _ ([], [], refl) e ended not
  where
    ended : AreTwoNames [] → place < length words
    ended (name, field, is) = absurd (cc)

    not : (v : List ℕ) (t : List (List ℕ)) → AreTwoNames (v ∷ t) → slice_get words place ≡ Some v → ⊥
    not v t is here = no_word_at words place v long here

pub behind_name : (words : List (List ℕ)) (place : ℕ) (name : List ℕ) (k : ℕ) → slice_get words place ≡ Some name → IsRefusedFrom IsEnd words (suc place) k → IsRefusedFrom IsOneName words place k
behind_name words place name k here r = from_behind IsOneName IsEnd name words place k here put off r
  where
    put : (t : List (List ℕ)) → IsEnd t → IsOneName (name ∷ t)
    put t is = (name, ap (λ l. name ∷ l) is)

    off : (t : List (List ℕ)) → IsOneName (name ∷ t) → IsEnd t
    off t (other, is) = cc

pub behind_first_name : (words : List (List ℕ)) (place : ℕ) (name : List ℕ) (k : ℕ) → slice_get words place ≡ Some name → IsRefusedFrom IsOneName words (suc place) k → IsRefusedFrom AreTwoNames words place k
behind_first_name words place name k here r = from_behind AreTwoNames IsOneName name words place k here put off r
  where
    put : (t : List (List ℕ)) → IsOneName t → AreTwoNames (name ∷ t)
    put t (field, is) = (name, field, ap (λ l. name ∷ l) is)

    off : (t : List (List ℕ)) → AreTwoNames (name ∷ t) → IsOneName t
    off t (other, field, is) = (field, cc)

-- what the words from the fifth on are
pub whole_words : (words : List (List ℕ)) (q : Question) → slice_get words 4 ≡ Some (question_word q) → question_names q ≡ [] → drop 5 words ≡ [] → drop 4 words ≡ question_words q
whole_words words q here none end = drop_at words 4 (question_word q) here ∙ ap (λ l. question_word q ∷ l) (end ∙ sym none)

pub part_words : (words : List (List ℕ)) (name : List ℕ) → slice_get words 4 ≡ Some (codes "part") → slice_get words 5 ≡ Some name → drop 6 words ≡ [] → drop 4 words ≡ question_words (questions.Part name)
part_words words name here there end = drop_at words 4 (codes "part") here ∙ ap (λ l. codes "part" ∷ l) (drop_at words 5 name there ∙ ap (λ l. name ∷ l) end)

pub field_words : (words : List (List ℕ)) (name field : List ℕ) → slice_get words 4 ≡ Some (codes "field") → slice_get words 5 ≡ Some name → slice_get words 6 ≡ Some field → drop 7 words ≡ [] → drop 4 words ≡ question_words (questions.Field name field)
field_words words name field here there last end =
    drop_at words 4 (codes "field") here ∙ ap (λ l. codes "field" ∷ l) (drop_at words 5 name there ∙ ap (λ l. name ∷ l) (drop_at words 6 field last ∙ ap (λ l. field ∷ l) end))

-- and what those from the second on are
pub show_words : (words : List (List ℕ)) (file : List ℕ) (n : ℕ) (q : Question) → slice_get words 1 ≡ Some file → IsFile file → slice_get words 2 ≡ Some (codes "--at") → IsNumberAt words 3 0 latest n → drop 4 words ≡ question_words q → AreShow file (time_of n) q (drop 1 words)
show_words words file n q here good there number asked =
    (drop_at words 1 file here ∙ ap (λ l. file ∷ l) (drop_at words 2 (codes "--at") there ∙ ap (λ l. codes "--at" ∷ l) (drop_at words 3 (decimal n) number.word ∙ ap (λ l. decimal n ∷ l) asked)), good, number.within)
