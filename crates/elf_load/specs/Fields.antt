-- Where the fields of an ELF32 file stand (System V ABI, chapter 4 "Object Files", and chapter 5 "Program Loading").
-- A field that lies past the file's end reads as if zeros followed the file.
use Rattle.std.specs.Prelude.{ℕ, zero, suc, ◌+◌, List, [], ◌∷◌, drop}
use Rattle.byteorder.specs.Endian.{little_number}
use Rattle.elf_load.specs.declared.elf_header.ElfHeader.{ElfHeader}
use Rattle.elf_load.specs.declared.program_header.ProgramHeader.{ProgramHeader}

-- Elf32_Half: the number in the two bytes from a place on, the lowest first
unfoldable pub half_at : List ℕ → ℕ → ℕ
half_at file at = little_number 2 (drop at file)

-- Elf32_Word, Elf32_Addr and Elf32_Off: the number in the four bytes from a place on, the lowest first
unfoldable pub word_at : List ℕ → ℕ → ℕ
word_at file at = little_number 4 (drop at file)

-- Elf32_Ehdr, the ELF header, which stands at place 0 and has 52 bytes
abbrev pub elf_header : List ℕ → ElfHeader
elf_header file = record {
  e_type = half_at file 16;
  e_machine = half_at file 18;
  e_version = word_at file 20;
  e_entry = word_at file 24;
  e_phoff = word_at file 28;
  e_ehsize = half_at file 40;
  e_phentsize = half_at file 42;
  e_phnum = half_at file 44;
}

-- Elf32_Phdr, the program header at a place, which has 32 bytes
abbrev pub program_header : List ℕ → ℕ → ProgramHeader
program_header file at = record {
  at = at;
  p_type = word_at file at;
  p_offset = word_at file (at + 4);
  p_vaddr = word_at file (at + 8);
  p_filesz = word_at file (at + 16);
  p_memsz = word_at file (at + 20);
}

-- so many program headers, one after the other from a place on
abbrev pub headers_from : List ℕ → ℕ → ℕ → List ProgramHeader
headers_from file at zero = []
headers_from file at (suc n) = program_header file at ∷ headers_from file (at + 32) n

-- the program header table
abbrev pub program_headers : List ℕ → List ProgramHeader
program_headers file = headers_from file (elf_header file).e_phoff (elf_header file).e_phnum
