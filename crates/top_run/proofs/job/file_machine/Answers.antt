use Rattle.std.proofs.Common.{rules, ◌≡◌, ◌∙◌, length, ap, sym, subst, Ok}
use Rattle.sim_config.specs.Tables.{PlanTables}
use Rattle.top_run.specs.Job.{AreOwn, AreRead}
use Rattle.top_run.proofs.Jobs.{fault_of_text, fault_of_programs, plan_means, fault_of_plan, same_programs}
use Rattle.top_run.proofs.job.file_machine.Goals as goal

pub returns-in_err-text-clause-fault : goal.returns-in_err-text-clause-fault
returns-in_err-text-clause-fault g c =
    let told = fault_of_text (g.F.Files.contents c.args.files.now) (g.F.Files.faults c.args.files.now) (g.F.Files.faults c.read_text.new.files) c.args.until c.args.file.now c.in_err-text.field-0.0 c.in_err-text.ensures.fault in
    search rules

pub returns-in_err-images-clause-fault : goal.returns-in_err-images-clause-fault
returns-in_err-images-clause-fault g c =
    let old = g.F.Files.contents c.args.files.now in
    let now = g.F.Files.contents c.read_text.new.files in
    let text = c.in_ok-text.text in
    let tables : c.items.result.now ≡ text.programs = c.items.ensures ∙ ap (λ (t : PlanTables). t.programs) c.text.view_is in
    let told = fault_of_programs old now c.args.until c.args.file.now c.read_text.ensures.contents text c.in_ok-text.ensures.text c.items.result.now tables
    (g.F.Files.faults c.args.files.now) (g.F.Files.faults c.read_text.new.files) (g.F.Files.faults c.read_programs.new.files) c.in_err-images.field-0.0 c.read_text.ensures.never_falls c.in_err-images.ensures.fault in
    search rules

pub machine_of_text-requires : goal.machine_of_text-requires
machine_of_text-requires g c =
    let text = c.in_ok-text.text in
    let tables : c.items.result.now ≡ text.programs = c.items.ensures ∙ ap (λ (t : PlanTables). t.programs) c.text.view_is in
    let plan : c.with_budget-text.result.programs ≡ text.programs = ap (λ (t : PlanTables). t.programs) c.with_budget-text.ensures ∙ same_programs c.args.until text in
    record { count = ap length c.deref.ensures.value ∙ c.in_ok-images.ensures.images.1 ∙ ap length (tables ∙ sym plan) }

pub returns-clause-machine : goal.returns-clause-machine
returns-clause-machine g c =
    let old = g.F.Files.contents c.args.files.now in
    let now = g.F.Files.contents c.read_text.new.files in
    let text = c.in_ok-text.text in
    let tables : c.items.result.now ≡ text.programs = c.items.ensures ∙ ap (λ (t : PlanTables). t.programs) c.text.view_is in
    let images : AreRead (AreOwn now) c.items.result.now (Ok c.deref.result.now) = subst (λ is. AreRead (AreOwn now) c.items.result.now (Ok is)) (sym c.deref.ensures.value) c.in_ok-images.ensures.images in
    plan_means old now c.args.until c.args.file.now c.read_text.ensures.contents text c.in_ok-text.ensures.text c.items.result.now tables
    c.deref.result.now c.with_budget-text.result c.machine_of_text.result images c.with_budget-text.ensures c.machine_of_text.ensures.machine

pub returns-clause-fault : goal.returns-clause-fault
returns-clause-fault g c =
    let old = g.F.Files.contents c.args.files.now in
    let now = g.F.Files.contents c.read_text.new.files in
    let text = c.in_ok-text.text in
    let tables : c.items.result.now ≡ text.programs = c.items.ensures ∙ ap (λ (t : PlanTables). t.programs) c.text.view_is in
    let images : AreRead (AreOwn now) c.items.result.now (Ok c.deref.result.now) = subst (λ is. AreRead (AreOwn now) c.items.result.now (Ok is)) (sym c.deref.ensures.value) c.in_ok-images.ensures.images in
    fault_of_plan old now c.args.until c.args.file.now c.read_text.ensures.contents text c.in_ok-text.ensures.text c.items.result.now tables
    c.deref.result.now c.with_budget-text.result _ c.machine_of_text.result images c.with_budget-text.ensures c.machine_of_text.ensures.fault
