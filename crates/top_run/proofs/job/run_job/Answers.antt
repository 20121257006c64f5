use Rattle.std.proofs.Common.{rules, refl, Err}
use Rattle.top_run.specs.Job.{AreOwn, MeansFile, MeansJob, run_with}
use Rattle.top_run.proofs.Loading.{machine_means, rule_means}
use Rattle.top_run.proofs.Jobs.{file_from_file}
use Rattle.top_run.proofs.job.run_job.Goals as goal

pub returns-in_err-machine-clause-fault : goal.returns-in_err-machine-clause-fault
returns-in_err-machine-clause-fault g c =
    let own = AreOwn (g.F.Files.contents c.args.files.now) in
    let told = file_from_file _ (λ rule. MeansFile own c.args.options.until c.args.file.now (Err rule)) (λ rule. MeansJob own (run_with c.args.engine c.args.options) c.args.options.until c.args.file.now (Err rule)) (λ rule is. rule_means own (run_with c.args.engine c.args.options) c.args.options.until c.args.file.now rule is) c.in_err-machine.field-0.0 c.in_err-machine.ensures.fault in
    search rules

pub returns-clause-job : goal.returns-clause-job
returns-clause-job g c = machine_means (AreOwn (g.F.Files.contents c.args.files.now)) (run_with c.args.engine c.args.options) c.args.options.until c.args.file.now c.in_ok-machine.machine _ c.in_ok-machine.ensures.machine refl
