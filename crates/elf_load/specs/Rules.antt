-- The rules of the format, in the order in which they are tried.
use Rattle.std.specs.Prelude.{ℕ, ◌+◌, ◌*◌, ◌^◌, nat_le, ◌==◌, ◌||◌, nat_eq, Bool, true, false, if◌then◌else◌, List, [], ◌∷◌, ◌++◌, length, slice_index, Option, Some, None}
use Rattle.std.specs.List.{flat_map, starts_with}
use Rattle.elf_load.specs.declared.elf_header.ElfHeader.{ElfHeader}
use Rattle.elf_load.specs.declared.fault.ElfFault.{ElfFault}
use Rattle.elf_load.specs.declared.fault.ElfFault.TheVariants.{Broken}
use Rattle.elf_load.specs.declared.program_header.ProgramHeader.{ProgramHeader}
use Rattle.elf_load.specs.declared.rule.ElfRule.{ElfRule}
use Rattle.elf_load.specs.declared.rule.ElfRule.TheVariants.{TooLong, Short, Magic, Class, DataOrder, Version, FileType, Machine, HeaderSize, TableOutside, SegmentOutside, FileOverMemory, AddressWraps}
use Rattle.elf_load.specs.Fields.{elf_header, program_headers}
use Rattle.elf_load.specs.Image.{is_load}

-- a broken rule, and the byte place where it is broken
abbrev pub Breach : Type 0
Breach = ElfRule × ℕ

-- what a rule tells of a file: nothing where the file keeps it, else the rule and its byte place
abbrev pub kept : ElfRule → Bool → ℕ → Option Breach
kept rule true at = None
kept rule false at = Some (rule, at)

-- the first rule of these that is broken, and its byte place
abbrev pub first_of : List (Option Breach) → Option Breach
first_of [] = None
first_of (None ∷ later) = first_of later
first_of (Some breach ∷ later) = Some breach

-- the fault that a broken rule is told by
abbrev pub told : Option Breach → Option ElfFault
told None = None
told (Some breach) = Some (Broken breach.0 breach.1)

-- the file has at most 8 MiB, and room for the ELF header
abbrev pub size_rules : List ℕ → List (Option Breach)
size_rules file =
    kept TooLong (nat_le (length file) 8388608) 8388608
    ∷ kept Short (nat_le 52 (length file)) (length file)
    ∷ []

-- e_ident: the magic number 7F 'E' 'L' 'F', ELFCLASS32, ELFDATA2LSB, EV_CURRENT
abbrev pub ident_rules : List ℕ → List (Option Breach)
ident_rules file =
    kept Magic (starts_with nat_eq file (0x7F ∷ 0x45 ∷ 0x4C ∷ 0x46 ∷ [])) 0
    ∷ kept Class (slice_index file 4 == 1) 4
    ∷ kept DataOrder (slice_index file 5 == 1) 5
    ∷ kept Version (slice_index file 6 == 1) 6
    ∷ []

-- EV_CURRENT, ET_EXEC and EM_RISCV, the sizes of the headers, and the place of the table in a file of this length
abbrev pub header_rules : ℕ → ElfHeader → List (Option Breach)
header_rules file_length h =
    kept Version (h.e_version == 1) 20
    ∷ kept FileType (h.e_type == 2) 16
    ∷ kept Machine (h.e_machine == 243) 18
    ∷ kept HeaderSize (h.e_ehsize == 52) 40
    ∷ kept HeaderSize (h.e_phnum == 0 || h.e_phentsize == 32) 42
    ∷ kept TableOutside (h.e_phnum == 0 || nat_le (h.e_phoff + 32 * h.e_phnum) file_length) 28
    ∷ []

-- the rules of one program header in a file of this length: none where it is no load
abbrev pub segment_rules : ℕ → ProgramHeader → List (Option Breach)
segment_rules file_length h = if is_load h then
    kept SegmentOutside (h.p_filesz == 0 || nat_le (h.p_offset + h.p_filesz) file_length) (h.at + 4)
    ∷ kept FileOverMemory (nat_le h.p_filesz h.p_memsz) (h.at + 16)
    ∷ kept AddressWraps (nat_le (h.p_vaddr + h.p_memsz) (2 ^ 32)) (h.at + 8)
    ∷ []
    else []

-- all rules in their order
abbrev pub rules_of : List ℕ → List (Option Breach)
rules_of file =
    size_rules file ++ ident_rules file ++ header_rules (length file) (elf_header file)
    ++ flat_map (segment_rules (length file)) (program_headers file)

-- the first broken rule and its byte place, where a rule is broken
unfoldable pub first_broken : List ℕ → Option Breach
first_broken file = first_of (rules_of file)
