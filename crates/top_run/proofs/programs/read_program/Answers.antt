use Rattle.std.proofs.Common.{◌≡◌, Err, refl}
use Rattle.sim_io.specs.declared.files.FileFault.TheVariants.{TooLong}
use Rattle.top_run.proofs.Jobs.{too_long_breaks}
use Rattle.top_run.proofs.programs.read_program.Goals as goal

pub returns-in-Err-TooLong-clause-fault : goal.returns-in-Err-TooLong-clause-fault
returns-in-Err-TooLong-clause-fault g c =
    let is : c.read_file.result ≡ Err TooLong = cc in
    let long = c.read_file.ensures.told_too_long is in
    (refl, too_long_breaks (g.F.Files.contents c.args.files.now) c.args.name.now c.args.number long)
