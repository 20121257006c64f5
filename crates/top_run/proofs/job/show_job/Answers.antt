use Rattle.std.proofs.Common.{rules, ◌≡◌, ℕ, List, Some, ap, Err}
use Rattle.sim_io.specs.Sink.{Rose}
use Rattle.plan_show.specs.Question.{query_in}
use Rattle.top_run.specs.Job.{Name, AreOwn, MeansFile, MeansJob, IsNameOfFile, shown, answered}
use Rattle.top_run.specs.Top.{IsFaultOfFile}
use Rattle.top_run.proofs.Loading.{machine_means, rule_means}
use Rattle.top_run.proofs.Jobs.{file_from_file, file_from_name}
use Rattle.top_run.proofs.job.show_job.Goals as goal

pub returns-in_err-machine-clause-fault : goal.returns-in_err-machine-clause-fault
returns-in_err-machine-clause-fault g c =
    let own = AreOwn (g.F.Files.contents c.args.files.now) in
    let work = shown c.args.question.now in
    let told = file_from_file _ (λ rule. MeansFile own (Some c.args.at) c.args.file.now (Err rule)) (λ rule. MeansJob own work (Some c.args.at) c.args.file.now (Err rule)) (λ rule is. rule_means own work (Some c.args.at) c.args.file.now rule is) c.in_err-machine.field-0.0 c.in_err-machine.ensures.fault in
    search rules

pub returns-in_err-query-clause-fault : goal.returns-in_err-query-clause-fault
returns-in_err-query-clause-fault g c =
    let own = AreOwn (g.F.Files.contents c.args.files.now) in
    let work = shown c.args.question.now in
    let machine = c.in_ok-machine.machine in
    let name : List ℕ → Type 0 = λ n. IsNameOfFile own c.args.file.now n × Rose (g.F.Files.faults c.args.files.now n) (g.F.Files.faults c.file_machine.new.files n) in
    let told : IsFaultOfFile name (λ rule. MeansJob own work (Some c.args.at) c.args.file.now (Err rule)) c.in_err-query.field-0.0 = file_from_name name (λ unknown. query_in machine.plan c.args.question.now ≡ Err unknown) (λ rule. MeansJob own work (Some c.args.at) c.args.file.now (Err rule)) (λ unknown is. machine_means own work (Some c.args.at) c.args.file.now machine (Err (Name unknown)) c.in_ok-machine.ensures.machine (ap (λ r. answered r machine) is)) c.in_err-query.field-0.0 c.in_err-query.ensures.fault in
    search rules

pub returns-clause-job : goal.returns-clause-job
returns-clause-job g c =
    let machine = c.in_ok-machine.machine in
    machine_means (AreOwn (g.F.Files.contents c.args.files.now)) (shown c.args.question.now) (Some c.args.at) c.args.file.now machine _ c.in_ok-machine.ensures.machine (ap (λ r. answered r machine) c.in_ok-query.ensures.query)
