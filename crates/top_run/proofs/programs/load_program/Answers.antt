use Rattle.std.proofs.Common.{◌≡◌, Err, refl}
use Rattle.elf_load.specs.declared.fault.ElfFault.TheVariants.{Broken}
use Rattle.top_run.proofs.programs.load_program.Goals as goal

pub returns-in-Err-Broken-clause-fault : goal.returns-in-Err-Broken-clause-fault
returns-in-Err-Broken-clause-fault c =
    let is : c.load.result ≡ Err (Broken c.in-Err-Broken.rule c.in-Err-Broken.at) = cc in
    (refl, (c.in-Err-Broken.rule, refl, (c.load.ensures.broken c.in-Err-Broken.rule c.in-Err-Broken.at).0 is))
