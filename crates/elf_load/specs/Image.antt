-- What a file holds for its loader.
use Rattle.std.specs.Prelude.{ℕ, ◌==◌, ◌&&◌, ◌+◌, ◌<◌, ◌≤◌, ◌^◌, nat_lt, Bool, List, map}
use Rattle.std.specs.List.{filter}
use Rattle.elf_load.specs.declared.program_header.ProgramHeader.{ProgramHeader}
use Rattle.elf_load.specs.declared.segment.Segment.{Segment}
use Rattle.elf_load.specs.Fields.{program_headers}

-- a load: its p_type is PT_LOAD, and it takes memory
abbrev pub is_load : ProgramHeader → Bool
is_load h = h.p_type == 1 && nat_lt 0 h.p_memsz

abbrev pub segment_of : ProgramHeader → Segment
segment_of h = record {
  vaddr = h.p_vaddr;
  mem_size = h.p_memsz;
  from = h.p_offset;
  file_size = h.p_filesz;
  header = h.at;
}

-- the segments of these headers, in their order: one for each load
abbrev pub loads : List ProgramHeader → List Segment
loads headers = map segment_of (filter is_load headers)

-- the segments of a file
abbrev pub segments_of : List ℕ → List Segment
segments_of file = loads (program_headers file)

-- what holds of each segment of a file of this length that breaks no rule
pub record IsSound (file_length : ℕ) (s : Segment) : Type 0 where
  pub not_empty : 0 < s.mem_size
  pub in_file : 0 < s.file_size → s.from + s.file_size ≤ file_length
  pub in_memory : s.file_size ≤ s.mem_size
  pub in_addresses : s.vaddr + s.mem_size ≤ 2 ^ 32
  pub header_in_file : s.header + 32 ≤ file_length
