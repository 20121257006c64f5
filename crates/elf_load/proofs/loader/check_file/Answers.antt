use Rattle.std.proofs.Common.{sym, ◌++◌, length}
use Rattle.std.specs.List.{flat_map}
use Rattle.std.proofs.lemmas.Result.{err_from_is_err_and}
use Rattle.elf_load.specs.Fields.{elf_header, program_headers}
use Rattle.elf_load.specs.Rules.{first_broken, header_rules, ident_rules, size_rules, segment_rules}
use Rattle.elf_load.proofs.Tables.{first_of-broken}
use Rattle.elf_load.proofs.loader.check_file.Goals as goal

-- a fault of the header comes before those of the segments
pub returns-in_err-header-clause-fault : goal.returns-in_err-header-clause-fault
unfolding first_broken
returns-in_err-header-clause-fault c =
    let p = err_from_is_err_and c.from_residual.result c.from_residual.ensures.1 in
    rw (p.1, p.2)
    (sym (first_of-broken (size_rules c.args.file.now ++ ident_rules c.args.file.now ++ header_rules (length c.args.file.now) (elf_header c.args.file.now))
    (flat_map (segment_rules (length c.args.file.now)) (program_headers c.args.file.now)) _ (sym c.in_err-header.ensures.fault)))
