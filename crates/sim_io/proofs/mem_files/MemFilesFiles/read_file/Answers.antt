use Rattle.std.proofs.Common.{◌≡◌, ◌∙◌, ap}
use Rattle.sim_io.specs.MemFiles.{kept_after}
use Rattle.sim_io.specs.declared.files.FileFault.TheVariants.{Failed}
use Rattle.sim_io.proofs.Counting.{kept_after-other, kept_after-rose}
use Rattle.sim_io.proofs.mem_files.MemFilesFiles.read_file.Goals as goal

pub returns-then-next_is_listed-clause-others_stay : goal.returns-then-next_is_listed-clause-others_stay
returns-then-next_is_listed-clause-others_stay c = λ other ne.
    kept_after-other c.fail.result c.args.self.now.failed _ c.args.name.now other
    (c.fail.ensures.kept ∙ ap (λ failed. kept_after c.fail.result failed c.args.name.now) c.next_is_listed.ensures.failed) ne

pub returns-in-None-clause-others_stay : goal.returns-in-None-clause-others_stay
returns-in-None-clause-others_stay c = λ other ne.
    kept_after-other c.fail-in-None.result c.args.self.now.failed _ c.args.name.now other
    (c.fail-in-None.ensures.kept ∙ ap (λ failed. kept_after c.fail-in-None.result failed c.args.name.now) c.next_is_listed.ensures.failed) ne

pub returns-then-next_is_listed-clause-failed : goal.returns-then-next_is_listed-clause-failed
returns-then-next_is_listed-clause-failed c = λ is.
    let fault : c.fail.result ≡ Failed = cc is in
    kept_after-rose c.fail.result c.args.self.now.failed _ c.args.name.now
    (c.fail.ensures.kept ∙ ap (λ failed. kept_after c.fail.result failed c.args.name.now) c.next_is_listed.ensures.failed) fault

pub returns-in-None-clause-failed : goal.returns-in-None-clause-failed
returns-in-None-clause-failed c = λ is.
    let fault : c.fail-in-None.result ≡ Failed = cc is in
    kept_after-rose c.fail-in-None.result c.args.self.now.failed _ c.args.name.now
    (c.fail-in-None.ensures.kept ∙ ap (λ failed. kept_after c.fail-in-None.result failed c.args.name.now) c.next_is_listed.ensures.failed) fault
