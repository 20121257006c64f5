use Rattle.std.proofs.Common.{rules, ◌≡◌, ◌⊎◌}
use Rattle.top_run.specs.Words.{spelled}
use Rattle.top_run.specs.Top.{IsJob, all_lines}
use Rattle.sim_io.specs.Sink.{Got}
use Rattle.top_run.proofs.WordRefusals.{err_map}
use Rattle.top_run.proofs.Spelling.{accepted_within}
use Rattle.top_run.proofs.Causes.{has_run, cause_of_job, unreported_result}
use Rattle.top_run.proofs.top.run_words.Goals as goal

pub read_job-requires : goal.read_job-requires
read_job-requires g c = record { within = accepted_within (spelled c.args.words.now) c.in_ok-command.command c.in_ok-command.ensures.accepted }

pub returns-clause-ran : goal.returns-clause-ran
returns-clause-ran g c =
    let command = c.in_ok-command.command in
    let job = c.in_ok-job.job in
    let is : IsJob (g.F.Files.contents c.args.files.now) (spelled c.args.words.now) command job = record { accepts = c.in_ok-command.ensures.accepted; means = c.in_ok-job.ensures.job } in
    has_run c.carry_out.result (g.F.Files.contents c.args.files.now) (spelled c.args.words.now) command job _ _ _ _ is (search rules) (search rules) (search rules)

pub returns-clause-fault : goal.returns-clause-fault
returns-clause-fault g c =
    let command = c.in_ok-command.command in
    let job = c.in_ok-job.job in
    let contents = g.F.Files.contents c.args.files.now in
    let words = spelled c.args.words.now in
    let is : IsJob contents words command job = record { accepts = c.in_ok-command.ensures.accepted; means = c.in_ok-job.ensures.job } in
    err_map _ _ c.carry_out.result (λ r fault. cause_of_job contents (g.F.Files.faults c.args.files.now) (g.F.Files.faults c.read_job.new.files) words (g.K.Sink.faults c.args.out.now) (g.K.Sink.faults c.carry_out.new.out) (g.K.Sink.told c.args.out.now) (g.K.Sink.told c.carry_out.new.out) command job ((c.carry_out.new.out ≡ c.args.out.now) ⊎ Got (g.K.Sink.told c.args.out.now) (g.K.Sink.told c.carry_out.new.out) (all_lines job)) r is fault) c.carry_out.ensures.fault

pub returns-clause-unreported : goal.returns-clause-unreported
returns-clause-unreported g c =
    let command = c.in_ok-command.command in
    let job = c.in_ok-job.job in
    let contents = g.F.Files.contents c.args.files.now in
    let words = spelled c.args.words.now in
    let is : IsJob contents words command job = record { accepts = c.in_ok-command.ensures.accepted; means = c.in_ok-job.ensures.job } in
    unreported_result _ c.carry_out.result _ _ contents words command job _ _ is c.carry_out.ensures.fault

pub returns-clause-unread : goal.returns-clause-unread
returns-clause-unread g c = λ none. absurd (none (c.in_ok-command.command, c.in_ok-command.ensures.accepted))
