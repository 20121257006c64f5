use Rattle.std.proofs.Common.{◌≡◌, subst, inr}
use Rattle.top_run.specs.Words.{spelled}
use Rattle.top_run.specs.Job.{Config, Program, Plan, Name}
use Rattle.top_run.specs.Refusals.{name_place}
use Rattle.top_run.specs.Top.{IsCause}
use Rattle.top_run.proofs.Spelling.{completed, not_run, not_broken, not_failed, refused_none, not_job, rule_same}
use Rattle.top_run.proofs.Causes.{is_three, is_four, told_as}
use Rattle.top_run.proofs.top.plain.Goals as goal

pub returns-in-Ok-clause-complete : goal.returns-in-Ok-clause-complete
returns-in-Ok-clause-complete g c = λ command job accepts told calm read. completed _ (spelled c.args.words.now) _ _ _ _ _ command job accepts told c.in-Ok.ensures.ran

pub returns-in-Ok-clause-broken : goal.returns-in-Ok-clause-broken
returns-in-Ok-clause-broken g c = λ command rule accepts told calm. not_run _ (spelled c.args.words.now) _ _ _ _ _ command rule accepts told c.in-Ok.ensures.ran

pub returns-in-Err-Usage-clause-complete : goal.returns-in-Err-Usage-clause-complete
returns-in-Err-Usage-clause-complete g c = λ command job accepts told calm read. refused_none (spelled c.args.words.now) _ command accepts (subst (λ r. IsCause (g.F.Files.contents c.args.files.now) (g.F.Files.faults c.args.files.now) (g.F.Files.faults c.run_words.new.files) (spelled c.args.words.now) (g.K.Sink.faults c.args.out.now) (g.K.Sink.faults c.run_words.new.out) (g.K.Sink.told c.args.out.now) (g.K.Sink.told c.run_words.new.out) r) c.in-Err-Usage.field-0-is c.in-Err-Usage.ensures.fault)

pub returns-in-Err-Usage-clause-accepted : goal.returns-in-Err-Usage-clause-accepted
returns-in-Err-Usage-clause-accepted g c = λ (command, accepts) two. refused_none (spelled c.args.words.now) _ command accepts (subst (λ r. IsCause (g.F.Files.contents c.args.files.now) (g.F.Files.faults c.args.files.now) (g.F.Files.faults c.run_words.new.files) (spelled c.args.words.now) (g.K.Sink.faults c.args.out.now) (g.K.Sink.faults c.run_words.new.out) (g.K.Sink.told c.args.out.now) (g.K.Sink.told c.run_words.new.out) r) c.in-Err-Usage.field-0-is c.in-Err-Usage.ensures.fault)

pub returns-in-Err-Usage-clause-broken : goal.returns-in-Err-Usage-clause-broken
returns-in-Err-Usage-clause-broken g c = λ command rule accepts told calm. refused_none (spelled c.args.words.now) _ command accepts (subst (λ r. IsCause (g.F.Files.contents c.args.files.now) (g.F.Files.faults c.args.files.now) (g.F.Files.faults c.run_words.new.files) (spelled c.args.words.now) (g.K.Sink.faults c.args.out.now) (g.K.Sink.faults c.run_words.new.out) (g.K.Sink.told c.args.out.now) (g.K.Sink.told c.run_words.new.out) r) c.in-Err-Usage.field-0-is c.in-Err-Usage.ensures.fault)

pub returns-in-Err-Read-clause-complete : goal.returns-in-Err-Read-clause-complete
returns-in-Err-Read-clause-complete g c = λ command job accepts told calm read. not_failed (spelled c.args.words.now) _ _ _ _ command accepts read (subst (λ r. IsCause (g.F.Files.contents c.args.files.now) (g.F.Files.faults c.args.files.now) (g.F.Files.faults c.run_words.new.files) (spelled c.args.words.now) (g.K.Sink.faults c.args.out.now) (g.K.Sink.faults c.run_words.new.out) (g.K.Sink.told c.args.out.now) (g.K.Sink.told c.run_words.new.out) r) c.in-Err-Read.field-0-is c.in-Err-Read.ensures.fault)

pub returns-in-Err-Read-clause-broken : goal.returns-in-Err-Read-clause-broken
returns-in-Err-Read-clause-broken g c = λ command rule accepts told calm. not_failed (spelled c.args.words.now) _ _ _ _ command accepts calm (subst (λ r. IsCause (g.F.Files.contents c.args.files.now) (g.F.Files.faults c.args.files.now) (g.F.Files.faults c.run_words.new.files) (spelled c.args.words.now) (g.K.Sink.faults c.args.out.now) (g.K.Sink.faults c.run_words.new.out) (g.K.Sink.told c.args.out.now) (g.K.Sink.told c.run_words.new.out) r) c.in-Err-Read.field-0-is c.in-Err-Read.ensures.fault)

pub returns-in-Err-Read-clause-read : goal.returns-in-Err-Read-clause-read
returns-in-Err-Read-clause-read g c = λ five.
    let why = (subst (λ r. IsCause (g.F.Files.contents c.args.files.now) (g.F.Files.faults c.args.files.now) (g.F.Files.faults c.run_words.new.files) (spelled c.args.words.now) (g.K.Sink.faults c.args.out.now) (g.K.Sink.faults c.run_words.new.out) (g.K.Sink.told c.args.out.now) (g.K.Sink.told c.run_words.new.out) r) c.in-Err-Read.field-0-is c.in-Err-Read.ensures.fault) in
    (c.in-Err-Read.file, (why.0, why.1, (why.2, c.tell_made-status-in-Err-Read.ensures.line five _ c.read_line.ensures.text)))

pub returns-in-Err-Config-clause-complete : goal.returns-in-Err-Config-clause-complete
returns-in-Err-Config-clause-complete g c = λ command job accepts told calm read. not_broken _ (spelled c.args.words.now) command job (Config c.in-Err-Config.fault) accepts told (subst (λ r. IsCause (g.F.Files.contents c.args.files.now) (g.F.Files.faults c.args.files.now) (g.F.Files.faults c.run_words.new.files) (spelled c.args.words.now) (g.K.Sink.faults c.args.out.now) (g.K.Sink.faults c.run_words.new.out) (g.K.Sink.told c.args.out.now) (g.K.Sink.told c.run_words.new.out) r) c.in-Err-Config.field-0-is c.in-Err-Config.ensures.fault)

pub returns-in-Err-Config-clause-rule : goal.returns-in-Err-Config-clause-rule
returns-in-Err-Config-clause-rule g c = λ broken.
    let is = is_three _ broken c.tell_made-status-in-Err-Config.ensures.either in
    (Config c.in-Err-Config.fault, is, (subst (λ r. IsCause (g.F.Files.contents c.args.files.now) (g.F.Files.faults c.args.files.now) (g.F.Files.faults c.run_words.new.files) (spelled c.args.words.now) (g.K.Sink.faults c.args.out.now) (g.K.Sink.faults c.run_words.new.out) (g.K.Sink.told c.args.out.now) (g.K.Sink.told c.run_words.new.out) r) c.in-Err-Config.field-0-is c.in-Err-Config.ensures.fault), c.tell_made-status-in-Err-Config.ensures.line is _ c.config_line.ensures.text)

pub returns-in-Err-Config-clause-broken : goal.returns-in-Err-Config-clause-broken
returns-in-Err-Config-clause-broken g c = λ command rule accepts told calm.
    let same = rule_same _ (spelled c.args.words.now) command rule (Config c.in-Err-Config.fault) accepts told (subst (λ r. IsCause (g.F.Files.contents c.args.files.now) (g.F.Files.faults c.args.files.now) (g.F.Files.faults c.run_words.new.files) (spelled c.args.words.now) (g.K.Sink.faults c.args.out.now) (g.K.Sink.faults c.run_words.new.out) (g.K.Sink.told c.args.out.now) (g.K.Sink.told c.run_words.new.out) r) c.in-Err-Config.field-0-is c.in-Err-Config.ensures.fault) in
    told_as same c.tell_made-status-in-Err-Config.ensures.either

pub returns-in-Err-Program-clause-complete : goal.returns-in-Err-Program-clause-complete
returns-in-Err-Program-clause-complete g c = λ command job accepts told calm read. not_broken _ (spelled c.args.words.now) command job (Program c.in-Err-Program.breach) accepts told (subst (λ r. IsCause (g.F.Files.contents c.args.files.now) (g.F.Files.faults c.args.files.now) (g.F.Files.faults c.run_words.new.files) (spelled c.args.words.now) (g.K.Sink.faults c.args.out.now) (g.K.Sink.faults c.run_words.new.out) (g.K.Sink.told c.args.out.now) (g.K.Sink.told c.run_words.new.out) r) c.in-Err-Program.field-0-is c.in-Err-Program.ensures.fault)

pub returns-in-Err-Program-clause-rule : goal.returns-in-Err-Program-clause-rule
returns-in-Err-Program-clause-rule g c = λ broken.
    let is = is_four _ broken c.tell_made-status-in-Err-Program.ensures.either in
    (Program c.in-Err-Program.breach, is, (subst (λ r. IsCause (g.F.Files.contents c.args.files.now) (g.F.Files.faults c.args.files.now) (g.F.Files.faults c.run_words.new.files) (spelled c.args.words.now) (g.K.Sink.faults c.args.out.now) (g.K.Sink.faults c.run_words.new.out) (g.K.Sink.told c.args.out.now) (g.K.Sink.told c.run_words.new.out) r) c.in-Err-Program.field-0-is c.in-Err-Program.ensures.fault), c.tell_made-status-in-Err-Program.ensures.line is _ c.program_line.ensures.text)

pub returns-in-Err-Program-clause-broken : goal.returns-in-Err-Program-clause-broken
returns-in-Err-Program-clause-broken g c = λ command rule accepts told calm.
    let same = rule_same _ (spelled c.args.words.now) command rule (Program c.in-Err-Program.breach) accepts told (subst (λ r. IsCause (g.F.Files.contents c.args.files.now) (g.F.Files.faults c.args.files.now) (g.F.Files.faults c.run_words.new.files) (spelled c.args.words.now) (g.K.Sink.faults c.args.out.now) (g.K.Sink.faults c.run_words.new.out) (g.K.Sink.told c.args.out.now) (g.K.Sink.told c.run_words.new.out) r) c.in-Err-Program.field-0-is c.in-Err-Program.ensures.fault) in
    told_as same c.tell_made-status-in-Err-Program.ensures.either

pub returns-in-Err-Plan-clause-complete : goal.returns-in-Err-Plan-clause-complete
returns-in-Err-Plan-clause-complete g c = λ command job accepts told calm read. not_broken _ (spelled c.args.words.now) command job (Plan c.in-Err-Plan.breach) accepts told (subst (λ r. IsCause (g.F.Files.contents c.args.files.now) (g.F.Files.faults c.args.files.now) (g.F.Files.faults c.run_words.new.files) (spelled c.args.words.now) (g.K.Sink.faults c.args.out.now) (g.K.Sink.faults c.run_words.new.out) (g.K.Sink.told c.args.out.now) (g.K.Sink.told c.run_words.new.out) r) c.in-Err-Plan.field-0-is c.in-Err-Plan.ensures.fault)

pub returns-in-Err-Plan-clause-rule : goal.returns-in-Err-Plan-clause-rule
returns-in-Err-Plan-clause-rule g c = λ broken.
    let is = is_three _ broken c.tell_made-status-in-Err-Plan.ensures.either in
    (Plan c.in-Err-Plan.breach, is, (subst (λ r. IsCause (g.F.Files.contents c.args.files.now) (g.F.Files.faults c.args.files.now) (g.F.Files.faults c.run_words.new.files) (spelled c.args.words.now) (g.K.Sink.faults c.args.out.now) (g.K.Sink.faults c.run_words.new.out) (g.K.Sink.told c.args.out.now) (g.K.Sink.told c.run_words.new.out) r) c.in-Err-Plan.field-0-is c.in-Err-Plan.ensures.fault), c.tell_made-status-in-Err-Plan.ensures.line is _ c.plan_line.ensures.text)

pub returns-in-Err-Plan-clause-broken : goal.returns-in-Err-Plan-clause-broken
returns-in-Err-Plan-clause-broken g c = λ command rule accepts told calm.
    let same = rule_same _ (spelled c.args.words.now) command rule (Plan c.in-Err-Plan.breach) accepts told (subst (λ r. IsCause (g.F.Files.contents c.args.files.now) (g.F.Files.faults c.args.files.now) (g.F.Files.faults c.run_words.new.files) (spelled c.args.words.now) (g.K.Sink.faults c.args.out.now) (g.K.Sink.faults c.run_words.new.out) (g.K.Sink.told c.args.out.now) (g.K.Sink.told c.run_words.new.out) r) c.in-Err-Plan.field-0-is c.in-Err-Plan.ensures.fault) in
    told_as same c.tell_made-status-in-Err-Plan.ensures.either

pub returns-in-Err-Name-clause-complete : goal.returns-in-Err-Name-clause-complete
returns-in-Err-Name-clause-complete g c = λ command job accepts told calm read. not_broken _ (spelled c.args.words.now) command job (Name c.in-Err-Name.unknown) accepts told (subst (λ r. IsCause (g.F.Files.contents c.args.files.now) (g.F.Files.faults c.args.files.now) (g.F.Files.faults c.run_words.new.files) (spelled c.args.words.now) (g.K.Sink.faults c.args.out.now) (g.K.Sink.faults c.run_words.new.out) (g.K.Sink.told c.args.out.now) (g.K.Sink.told c.run_words.new.out) r) c.in-Err-Name.field-0-is c.in-Err-Name.ensures.fault)

pub returns-in-Err-Name-clause-usage : goal.returns-in-Err-Name-clause-usage
returns-in-Err-Name-clause-usage g c = λ two.
    let place : c.name_place.result ≡ name_place c.in-Err-Name.unknown = c.name_place.ensures in
    (c.name_place.result, inr (c.in-Err-Name.unknown, place, (subst (λ r. IsCause (g.F.Files.contents c.args.files.now) (g.F.Files.faults c.args.files.now) (g.F.Files.faults c.run_words.new.files) (spelled c.args.words.now) (g.K.Sink.faults c.args.out.now) (g.K.Sink.faults c.run_words.new.out) (g.K.Sink.told c.args.out.now) (g.K.Sink.told c.run_words.new.out) r) c.in-Err-Name.field-0-is c.in-Err-Name.ensures.fault)), c.tell_made-status-in-Err-Name.ensures.line two _ c.usage_line-in-Err-Name.ensures.text)

pub returns-in-Err-Name-clause-accepted : goal.returns-in-Err-Name-clause-accepted
returns-in-Err-Name-clause-accepted g c = λ accepted two. (c.name_place.result, (c.in-Err-Name.unknown, c.name_place.ensures, (subst (λ r. IsCause (g.F.Files.contents c.args.files.now) (g.F.Files.faults c.args.files.now) (g.F.Files.faults c.run_words.new.files) (spelled c.args.words.now) (g.K.Sink.faults c.args.out.now) (g.K.Sink.faults c.run_words.new.out) (g.K.Sink.told c.args.out.now) (g.K.Sink.told c.run_words.new.out) r) c.in-Err-Name.field-0-is c.in-Err-Name.ensures.fault)))

pub returns-in-Err-Name-clause-broken : goal.returns-in-Err-Name-clause-broken
returns-in-Err-Name-clause-broken g c = λ command rule accepts told calm.
    let same = rule_same _ (spelled c.args.words.now) command rule (Name c.in-Err-Name.unknown) accepts told (subst (λ r. IsCause (g.F.Files.contents c.args.files.now) (g.F.Files.faults c.args.files.now) (g.F.Files.faults c.run_words.new.files) (spelled c.args.words.now) (g.K.Sink.faults c.args.out.now) (g.K.Sink.faults c.run_words.new.out) (g.K.Sink.told c.args.out.now) (g.K.Sink.told c.run_words.new.out) r) c.in-Err-Name.field-0-is c.in-Err-Name.ensures.fault) in
    told_as same c.tell_made-status-in-Err-Name.ensures.either

pub returns-in-Err-WriteAt-clause-broken : goal.returns-in-Err-WriteAt-clause-broken
returns-in-Err-WriteAt-clause-broken g c = λ command rule accepts told calm. not_job _ (spelled c.args.words.now) _ command rule accepts told (subst (λ r. IsCause (g.F.Files.contents c.args.files.now) (g.F.Files.faults c.args.files.now) (g.F.Files.faults c.run_words.new.files) (spelled c.args.words.now) (g.K.Sink.faults c.args.out.now) (g.K.Sink.faults c.run_words.new.out) (g.K.Sink.told c.args.out.now) (g.K.Sink.told c.run_words.new.out) r) c.in-Err-WriteAt.field-0-is c.in-Err-WriteAt.ensures.fault).1

pub returns-in-Err-Write-clause-broken : goal.returns-in-Err-Write-clause-broken
returns-in-Err-Write-clause-broken g c = λ command rule accepts told calm. not_job _ (spelled c.args.words.now) _ command rule accepts told (subst (λ r. IsCause (g.F.Files.contents c.args.files.now) (g.F.Files.faults c.args.files.now) (g.F.Files.faults c.run_words.new.files) (spelled c.args.words.now) (g.K.Sink.faults c.args.out.now) (g.K.Sink.faults c.run_words.new.out) (g.K.Sink.told c.args.out.now) (g.K.Sink.told c.run_words.new.out) r) c.in-Err-Write.field-0-is c.in-Err-Write.ensures.fault).1
