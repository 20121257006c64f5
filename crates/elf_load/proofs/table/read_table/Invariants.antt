use Rattle.std.proofs.Common.{◌≡◌, ◌+◌, ◌*◌, ◌-◌, ◌++◌}
use Rattle.elf_load.specs.Fields.{headers_from}
use Rattle.elf_load.specs.Image.{loads}
use Rattle.elf_load.proofs.table.read_table.Given as goal

-- the segments so far and those from here on are all of them
abbrev pub invariant-loop-index : goal.invariant-loop-index
invariant-loop-index l =
    l.segments.items ++ loads (headers_from l.file (l.from + 32 * l.index) (l.count - l.index))
    ≡ loads (headers_from l.file l.from l.count)
