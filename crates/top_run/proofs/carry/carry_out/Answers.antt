use Rattle.std.proofs.Common.{rules, ◌≡◌, ◌∙◌, ◌+◌, ◌++◌, ◌⊎◌, subst, sym}
use Rattle.sim_io.specs.Sink.{Rose, Got}
use Rattle.top_run.specs.Top.{lines_by, report_by, plan_lines, plan_report, Broke, PlanFailed, FailedBy, FailedAt, FailedBehind, all_lines, IsFaultOfJob}
use Rattle.top_run.proofs.Jobs.{rose_behind}
use Rattle.top_run.proofs.Telling.{all_written, some_written, fault_of_job}
use Rattle.top_run.proofs.carry.carry_out.Goals as goal

pub returns-in_err-shown-in-Run-clause-fault : goal.returns-in_err-shown-in-Run-clause-fault
returns-in_err-shown-in-Run-clause-fault g c =
    let job = c.args.job in
    let plan = job.machine.plan in
    let old = g.K.Sink.told c.args.out.now in
    let new = g.K.Sink.told c.show_run.new.out in
    let rose = Rose (g.K.Sink.faults c.args.out.now) (g.K.Sink.faults c.show_run.new.out) in
    let same = c.show_run.new.out ≡ c.args.out.now in
    let options = c.in-Run.options in
    let told = fault_of_job (rose × FailedBehind job old new)
    (same ⊎ Got old new (plan_lines options.trace plan (plan.until + 1))) (same ⊎ Got old new (all_lines job))
    (λ d. rose × PlanFailed options.trace plan old new d) (λ d. rose × FailedAt job old new d) c.in_err-shown-in-Run.field-0.0
    (λ d failed. (failed.0, subst (λ w. FailedBy w plan old new d) (sym c.in-Run.is) failed.1))
    (λ lines. subst (λ w. same ⊎ Got old new (lines_by w plan (plan.until + 1))) (sym c.in-Run.is) lines)
    c.in_err-shown-in-Run.ensures.fault in
    search rules

pub returns-in_err-write_report-in-Run-clause-fault : goal.returns-in_err-write_report-in-Run-clause-fault
returns-in_err-write_report-in-Run-clause-fault g c =
    let job = c.args.job in
    let plan = job.machine.plan in
    let old = g.K.Sink.told c.args.out.now in
    let mid = g.K.Sink.told c.show_run.new.out in
    let new = g.K.Sink.told c.write_report.new.out in
    let first = g.K.Sink.faults c.args.out.now in
    let last = g.K.Sink.faults c.write_report.new.out in
    let options = c.in-Run.options in
    let fault = c.in_err-write_report-in-Run.ensures.fault in
    let rose : Rose first last = rose_behind first (g.K.Sink.faults c.show_run.new.out) last c.show_run.ensures.never_falls fault.0 in
    let some = some_written old mid new (plan_lines options.trace plan (plan.until + 1)) (plan_report options plan) c.items.result.now c.in_ok-shown-in-Run.ensures.lines (c.items.ensures ∙ c.in_ok-shown-in-Run.ensures.report) fault.1 in
    let broke : FailedBehind job old new = subst (λ w. Broke (lines_by w plan (plan.until + 1)) (report_by w job.machine) old new) (sym c.in-Run.is) some in
    let told = subst (IsFaultOfJob (Rose first last × FailedBehind job old new) (λ d. Rose first last × FailedAt job old new d) ((c.write_report.new.out ≡ c.args.out.now) ⊎ Got old new (all_lines job))) (sym c.in_err-write_report-in-Run.ensures.write) (rose, broke) in
    search rules

pub returns-in_ok-write_report-in-Run-clause-written : goal.returns-in_ok-write_report-in-Run-clause-written
returns-in_ok-write_report-in-Run-clause-written g c =
    let old = g.K.Sink.told c.args.out.now in
    let mid = g.K.Sink.told c.show_run.new.out in
    let new = g.K.Sink.told c.write_report.new.out in
    let machine = c.args.job.machine in
    let plan = machine.plan in
    let options = c.in-Run.options in
    let got = all_written old mid new (plan_lines options.trace plan (plan.until + 1)) (plan_report options plan) c.items.result.now c.in_ok-shown-in-Run.ensures.lines (c.items.ensures ∙ c.in_ok-shown-in-Run.ensures.report) c.in_ok-write_report-in-Run.ensures.ok in
    subst (λ w. Got old new (lines_by w plan (plan.until + 1) ++ report_by w machine)) (sym c.in-Run.is) got
