use Rattle.std.proofs.Common.{rules}
use Rattle.top_run.specs.Words.{spelled, IsShow, IsRefusedFrom, IsUsage}
use Rattle.top_run.proofs.WordRefusals.{usage_map}
use Rattle.top_run.proofs.ShowRefusals.{no_show_file, behind_show_file, no_at, behind_at, no_show_time, behind_show_time, show_words}
use Rattle.top_run.proofs.words.read_show.Goals as goal

pub returns-in_err-file-clause-refused : goal.returns-in_err-file-clause-refused
returns-in_err-file-clause-refused c =
    let words = spelled c.args.words.now in
    let told : IsUsage (IsRefusedFrom IsShow words 1) c.in_err-file.field-0.0 = usage_map _ (IsRefusedFrom IsShow words 1) _ (λ k none. no_show_file words k none.0 none.1) c.in_err-file.ensures.none in
    search rules

pub returns-in_err-need_word-clause-refused : goal.returns-in_err-need_word-clause-refused
returns-in_err-need_word-clause-refused c =
    let words = spelled c.args.words.now in
    let found = c.in_ok-file.ensures.some in
    let told : IsUsage (IsRefusedFrom IsShow words 1) c.in_err-need_word.field-0.0 = usage_map _ (IsRefusedFrom IsShow words 1) _ (λ k none. behind_show_file words c.in_ok-file.file k found.0 found.1 (no_at words k none.0 none.1)) c.in_err-need_word.ensures.none in
    search rules

pub returns-in_err-at-clause-refused : goal.returns-in_err-at-clause-refused
returns-in_err-at-clause-refused c =
    let words = spelled c.args.words.now in
    let found = c.in_ok-file.ensures.some in
    let at = c.in_ok-need_word.ensures.some in
    let told : IsUsage (IsRefusedFrom IsShow words 1) c.in_err-at.field-0.0 = usage_map _ (IsRefusedFrom IsShow words 1) _ (λ k none. behind_show_file words c.in_ok-file.file k found.0 found.1 (behind_at words k at (no_show_time words k none.0 none.1))) c.in_err-at.ensures.none in
    search rules

pub returns-in_err-question-clause-refused : goal.returns-in_err-question-clause-refused
returns-in_err-question-clause-refused c =
    let words = spelled c.args.words.now in
    let found = c.in_ok-file.ensures.some in
    let at = c.in_ok-need_word.ensures.some in
    let told : IsUsage (IsRefusedFrom IsShow words 1) c.in_err-question.field-0.0 = usage_map _ (IsRefusedFrom IsShow words 1) _ (λ k r. behind_show_file words c.in_ok-file.file k found.0 found.1 (behind_at words k at (behind_show_time words c.in_ok-at.at k c.in_ok-at.ensures.some r))) c.in_err-question.ensures.refused in
    search rules

pub returns-clause-accepted : goal.returns-clause-accepted
returns-clause-accepted c =
    let found = c.in_ok-file.ensures.some in
    show_words (spelled c.args.words.now) c.in_ok-file.file c.in_ok-at.at c.in_ok-question.question found.0 found.1 c.in_ok-need_word.ensures.some c.in_ok-at.ensures.some c.in_ok-question.ensures.accepted
