use Rattle.std.proofs.Common.{rules, ◌≡◌, ◌≢◌, Some, [], codes, arith, refl}
use Rattle.std.specs.Prelude.{slice_get}
use Rattle.plan_show.specs.declared.question.Question.{Question}
use Rattle.plan_show.specs.declared.question.Question.TheVariants as questions
use Rattle.top_run.specs.Words.{spelled, question_word, question_names, IsQuestion, IsRefusedFrom, IsUsage}
use Rattle.top_run.proofs.WordRefusals.{within, length-spelled, usage_map}
use Rattle.top_run.proofs.CommandRefusals.{refused_end}
use Rattle.top_run.proofs.ShowRefusals.{no_question, behind_whole, whole_words}
use Rattle.top_run.proofs.words.read_question.Goals as goal

pub need_end-requires : goal.need_end-requires
need_end-requires c =
    let words = spelled c.args.words.now in
    let count = length-spelled c.args.words.now in
    let there = within words 4 (question_word c.in-Some.question) c.in-Some.ensures.some.1 in
    record { near = omega (arith, there, count) }

pub returns-in_err-need_end-in-Some-clause-refused : goal.returns-in_err-need_end-in-Some-clause-refused
returns-in_err-need_end-in-Some-clause-refused c =
    let words = spelled c.args.words.now in
    let count = length-spelled c.args.words.now in
    let found = c.in-Some.ensures.some in
    let told : IsUsage (IsRefusedFrom IsQuestion words 4) c.in_err-need_end-in-Some.field-0.0 = usage_map _ (IsRefusedFrom IsQuestion words 4) _ (λ k more. behind_whole words c.in-Some.question k found.1 found.0 (refused_end words 5 k more.0 (omega (arith, count, more.1)))) c.in_err-need_end-in-Some.ensures.more in
    search rules

pub returns-in-None-clause-refused : goal.returns-in-None-clause-refused
returns-in-None-clause-refused c =
    let words = spelled c.args.words.now in
    let part : slice_get words 4 ≢ Some (codes "part") = λ h. let yes = c.is_word.ensures.1 h in search rules in
    let field : slice_get words 4 ≢ Some (codes "field") = λ h. let yes = c.is_word-2.ensures.1 h in search rules in
    let none : (q : Question) → question_names q ≡ [] → slice_get words 4 ≢ Some (question_word q) = λ q alone h. c.whole_question.ensures.none (search rules) q alone h in
    no_question words 5 refl (other words part field none)
  where
    other : (words : _) → slice_get words 4 ≢ Some (codes "part") → slice_get words 4 ≢ Some (codes "field") → ((q : Question) → question_names q ≡ [] → slice_get words 4 ≢ Some (question_word q)) → (q : Question) → slice_get words 4 ≢ Some (question_word q)
    other words part field none questions.Now = none questions.Now refl
    other words part field none questions.Parts = none questions.Parts refl
    other words part field none (questions.Part name) = part
    other words part field none (questions.Field name field_name) = field
    other words part field none questions.Buffers = none questions.Buffers refl
    other words part field none questions.Progress = none questions.Progress refl
    other words part field none questions.Stuck = none questions.Stuck refl

pub returns-in_ok-need_end-in-Some-clause-accepted : goal.returns-in_ok-need_end-in-Some-clause-accepted
returns-in_ok-need_end-in-Some-clause-accepted c =
    let found = c.in-Some.ensures.some in
    whole_words (spelled c.args.words.now) c.in-Some.question found.1 found.0 c.in_ok-need_end-in-Some.ensures.end
