use Rattle.std.proofs.Common.{◌≡◌, ◌+◌, ◌*◌, length, ◌-◌}
use Rattle.std.specs.List.{flat_map}
use Rattle.elf_load.specs.Fields.{headers_from}
use Rattle.elf_load.specs.Rules.{first_of, segment_rules}
use Rattle.elf_load.proofs.table.check_table.Given as goal

-- what the headers from here on tell is what all of them tell
abbrev pub invariant-loop-index : goal.invariant-loop-index
invariant-loop-index l =
    first_of (flat_map (segment_rules (length l.file)) (headers_from l.file (l.from + 32 * l.index) (l.count - l.index)))
    ≡ first_of (flat_map (segment_rules (length l.file)) (headers_from l.file l.from l.count))
