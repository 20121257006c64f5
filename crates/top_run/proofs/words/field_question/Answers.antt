use Rattle.std.proofs.Common.{rules, arith}
use Rattle.top_run.specs.Words.{spelled, IsQuestion, IsRefusedFrom, IsUsage}
use Rattle.top_run.proofs.WordRefusals.{length-spelled, usage_map}
use Rattle.top_run.proofs.CommandRefusals.{refused_end}
use Rattle.top_run.proofs.ShowRefusals.{behind_field, no_name, no_names, behind_name, behind_first_name, field_words}
use Rattle.top_run.proofs.words.field_question.Goals as goal

pub returns-in_err-part-clause-refused : goal.returns-in_err-part-clause-refused
returns-in_err-part-clause-refused c =
    let words = spelled c.args.words.now in
    let count = length-spelled c.args.words.now in
    let told : IsUsage (IsRefusedFrom IsQuestion words 4) c.in_err-part.field-0.0 = usage_map _ (IsRefusedFrom IsQuestion words 4) _ (λ k none. behind_field words k c.requires.word (no_names words 5 k none.0 (omega (arith, count, none.1)))) c.in_err-part.ensures.none in
    search rules

pub returns-in_err-field-clause-refused : goal.returns-in_err-field-clause-refused
returns-in_err-field-clause-refused c =
    let words = spelled c.args.words.now in
    let count = length-spelled c.args.words.now in
    let told : IsUsage (IsRefusedFrom IsQuestion words 4) c.in_err-field.field-0.0 = usage_map _ (IsRefusedFrom IsQuestion words 4) _ (λ k none. behind_field words k c.requires.word (behind_first_name words 5 c.in_ok-part.part k c.in_ok-part.ensures.some (no_name words 6 k none.0 (omega (arith, count, none.1))))) c.in_err-field.ensures.none in
    search rules

pub returns-in_err-need_end-clause-refused : goal.returns-in_err-need_end-clause-refused
returns-in_err-need_end-clause-refused c =
    let words = spelled c.args.words.now in
    let count = length-spelled c.args.words.now in
    let told : IsUsage (IsRefusedFrom IsQuestion words 4) c.in_err-need_end.field-0.0 = usage_map _ (IsRefusedFrom IsQuestion words 4) _ (λ k more. behind_field words k c.requires.word (behind_first_name words 5 c.in_ok-part.part k c.in_ok-part.ensures.some (behind_name words 6 c.in_ok-field.field k c.in_ok-field.ensures.some (refused_end words 7 k more.0 (omega (arith, count, more.1)))))) c.in_err-need_end.ensures.more in
    search rules

pub returns-clause-accepted : goal.returns-clause-accepted
returns-clause-accepted c = field_words (spelled c.args.words.now) c.in_ok-part.part c.in_ok-field.field c.requires.word c.in_ok-part.ensures.some c.in_ok-field.ensures.some c.in_ok-need_end.ensures.end
