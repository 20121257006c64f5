use Rattle.std.proofs.Common.{sym, ap, ◌∙◌, ◌≡◌, length, ◌*◌, ◌+◌, ◌-◌, arith}
use Rattle.std.specs.Prelude.{Some, None}
use Rattle.std.proofs.lemmas.Result.{err_from_is_err_and}
use Rattle.std.specs.List.{flat_map}
use Rattle.elf_load.specs.Fields.{headers_from}
use Rattle.elf_load.specs.Rules.{first_of, segment_rules, told}
use Rattle.elf_load.proofs.Sound.{All-loads}
use Rattle.elf_load.proofs.Tables.{headers-kept, headers-broken}
use Rattle.elf_load.proofs.table.check_table.Goals as goal

pub returns-in_err-check-clause-fault : goal.returns-in_err-check-clause-fault
returns-in_err-check-clause-fault c =
    let p = err_from_is_err_and c.from_residual.result c.from_residual.ensures.1 in
    let fault : told (first_of (segment_rules (length c.args.file.now) c.read.result)) ≡ Some c.in_err-check.field-0.0 = sym c.in_err-check.ensures in
    rw (p.1, p.2)
    (sym (headers-broken (length c.args.file.now) c.args.file.now c.args.from c.args.count c.loop-index.index _ c.loop-index-test.true
    (ap (λ h. told (first_of (segment_rules (length c.args.file.now) h))) (sym c.read.ensures) ∙ fault))
    ∙ ap told c.loop-index.invariant)

pub loop-index-preserved : goal.loop-index-preserved
loop-index-preserved c =
    let fault : told (first_of (segment_rules (length c.args.file.now) c.read.result)) ≡ None = sym c.in_ok-check.ensures in
    sym (headers-kept (length c.args.file.now) c.args.file.now c.args.from c.args.count c.loop-index.index c.loop-index-test.true
    (ap (λ h. told (first_of (segment_rules (length c.args.file.now) h))) (sym c.read.ensures) ∙ fault))
    ∙ c.loop-index.invariant

pub returns-clause-sound : goal.returns-clause-sound
returns-clause-sound c =
    let none : c.args.count - c.loop-index.index ≡ 0 = omega arith in
    All-loads (length c.args.file.now) c.args.file.now c.args.from c.args.count c.requires.inside
    (sym c.loop-index.invariant
    ∙ ap (λ m. first_of (flat_map (segment_rules (length c.args.file.now)) (headers_from c.args.file.now (c.args.from + 32 * c.loop-index.index) m))) none)
