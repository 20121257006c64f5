use Rattle.std.proofs.Common.{◌≡◌, ◌<◌, length, Err, subst}
use Rattle.std.specs.Prelude.{IfSome}
use Rattle.sim_io.specs.declared.files.FileFault.TheVariants.{TooLong}
use Rattle.sim_config.specs.Meaning.{longest_file}
use Rattle.top_run.proofs.Jobs.{too_long_gave}
use Rattle.top_run.proofs.job.read_text.Goals as goal

pub returns-in-Err-TooLong-clause-fault : goal.returns-in-Err-TooLong-clause-fault
returns-in-Err-TooLong-clause-fault g c =
    let is : c.read_file.result ≡ Err TooLong = cc in
    let long = c.read_file.ensures.told_too_long is in
    too_long_gave (g.F.Files.contents c.args.files.now c.args.file.now)
    (subst (λ name. IfSome (g.F.Files.contents c.args.files.now name) (λ own. longest_file < length own)) c.as_str.ensures long)
