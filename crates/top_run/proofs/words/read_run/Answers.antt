use Rattle.std.proofs.Common.{rules, drop}
use Rattle.top_run.specs.Words.{spelled, IsFileAndOptions, IsRefusedFrom, IsUsage}
use Rattle.top_run.proofs.WordRefusals.{usage_map, drop_at}
use Rattle.top_run.proofs.CommandRefusals.{no_run_file, behind_run_file}
use Rattle.top_run.proofs.words.read_run.Goals as goal

pub returns-in_err-file-clause-refused : goal.returns-in_err-file-clause-refused
returns-in_err-file-clause-refused c =
    let words = spelled c.args.words.now in
    let told : IsUsage (IsRefusedFrom IsFileAndOptions words 1) c.in_err-file.field-0.0 = usage_map _ (IsRefusedFrom IsFileAndOptions words 1) _ (λ k none. no_run_file words k none.0 none.1) c.in_err-file.ensures.none in
    search rules

pub returns-in_err-options-clause-refused : goal.returns-in_err-options-clause-refused
returns-in_err-options-clause-refused c =
    let words = spelled c.args.words.now in
    let found = c.in_ok-file.ensures.some in
    let told : IsUsage (IsRefusedFrom IsFileAndOptions words 1) c.in_err-options.field-0.0 = usage_map _ (IsRefusedFrom IsFileAndOptions words 1) _ (λ k r. behind_run_file words c.in_ok-file.file k found.0 found.1 r) c.in_err-options.ensures.refused in
    search rules

pub returns-clause-accepted : goal.returns-clause-accepted
returns-clause-accepted c =
    let words = spelled c.args.words.now in
    let found = c.in_ok-file.ensures.some in
    (drop 2 words, drop_at words 1 c.in_ok-file.file found.0, found.1, c.in_ok-options.ensures.accepted)
