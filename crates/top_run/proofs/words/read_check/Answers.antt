use Rattle.std.proofs.Common.{rules, arith}
use Rattle.top_run.specs.Words.{spelled, IsOneFile, IsRefusedFrom, IsUsage}
use Rattle.top_run.proofs.WordRefusals.{length-spelled, usage_map}
use Rattle.top_run.proofs.CommandRefusals.{refused_end, no_file, behind_file}
use Rattle.top_run.proofs.words.read_check.Goals as goal

pub returns-in_err-file-clause-refused : goal.returns-in_err-file-clause-refused
returns-in_err-file-clause-refused c =
    let words = spelled c.args.words.now in
    let told : IsUsage (IsRefusedFrom IsOneFile words 1) c.in_err-file.field-0.0 = usage_map _ (IsRefusedFrom IsOneFile words 1) _ (λ k none. no_file words k none.0 none.1) c.in_err-file.ensures.none in
    search rules

pub returns-in_err-need_end-clause-refused : goal.returns-in_err-need_end-clause-refused
returns-in_err-need_end-clause-refused c =
    let words = spelled c.args.words.now in
    let found = c.in_ok-file.ensures.some in
    let count = length-spelled c.args.words.now in
    let told : IsUsage (IsRefusedFrom IsOneFile words 1) c.in_err-need_end.field-0.0 = usage_map _ (IsRefusedFrom IsOneFile words 1) _ (λ k more. behind_file words c.in_ok-file.file k found.0 found.1 (refused_end words 2 k more.0 (omega (arith, count, more.1)))) c.in_err-need_end.ensures.more in
    search rules
